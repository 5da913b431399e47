use Rattle.std.proofs.Common.{Err, ap, ◌∙◌, ◌++◌}
use Rattle.formula.specs.Worth.{assigned}
use Rattle.try_lines.proofs.Assignments.{known_symbol}
use Rattle.try_lines.proofs.sheets.set.Goals as goal

pub returns-in-Err-KnownSymbol : goal.returns-in-Err-KnownSymbol
returns-in-Err-KnownSymbol c s rest =
    ap (λ l. assigned (l ++ rest) s) c.in-Err-KnownSymbol.ensures.unchanged
    ∙ known_symbol c.args.sheet.now rest c.args.symbol c.args.value s (c.in-Err-KnownSymbol.ensures.known.0 (ap Err c.in-Err-KnownSymbol.field-0-is))
