-- Bare names in sets.
use Rattle.std.specs.Prelude.{Bool, false, List}
use Rattle.formula.specs.Atoms.{is_among}
use Rattle.fort_syntax.specs.declared.expr.Expr.{Expr}
use Rattle.fort_syntax.specs.declared.expr.Expr.TheVariants.{Var}
use Rattle.fort_syntax.specs.declared.name.Name.{Name}

-- an expression is a bare name that is in a set
abbrev pub bare_in : List Name → Expr → Bool
bare_in set (Var x) = is_among x set
bare_in set _ = false
