use Rattle.std.proofs.Common.{◌∙◌, ap, nat_eq}
use Rattle.std.specs.Cmp.Lexicographic.{pointwise}
use Rattle.std.specs.List.{list_any}
use Rattle.term_worth.specs.Sheets.{is_set}
use Rattle.term_worth.proofs.Assigned.{is_set_keys}
use Rattle.term_worth.proofs.sheet.Sheet.has.Goals as goal

pub returns : goal.returns
returns c =
    c.contains.ensures ∙ ap (list_any (pointwise nat_eq c.args.symbol)) c.self.invariant.0 ∙ is_set_keys c.self.inside.entries.items c.args.symbol
    ∙ ap (λ es. is_set es c.args.symbol) c.self.view_is
