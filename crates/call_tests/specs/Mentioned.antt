-- The names in an expression, in the order of the text.
use Rattle.std.specs.Prelude.{List, [], ◌∷◌, ◌++◌}
use mathlib.Core.Former.{Count}
use Rattle.fort_syntax.specs.TreePatterns.{only}
use Rattle.fort_syntax.specs.declared.expr.Expr.{Expr, Row_of-Expr, end_of-Expr, more_of-Expr}
use Rattle.fort_syntax.specs.declared.expr.Expr.TheVariants.{Const, Truth, Var, Apply', Paren', Pos', Neg', Power', Bin', Rel', Not', And', Or'}
use Rattle.fort_syntax.specs.declared.name.Name.{Name}

-- each as often as it stands there; the name of an array or a function before its brackets is one, and so are
-- those in the brackets
abbrev mutual
  pub names_in : Expr → List Name
  names_in (Const n) = []
  names_in (Truth b) = []
  names_in (Var x) = x ∷ []
  names_in (Apply' f _ args) = f ∷ names_in_row args
  names_in (Paren' _ (only a)) = names_in a
  names_in (Pos' _ (only a)) = names_in a
  names_in (Neg' _ (only a)) = names_in a
  names_in (Power' _ (only a) n) = names_in a
  names_in (Bin' o _ (only a) _ (only b)) = names_in a ++ names_in b
  names_in (Rel' o _ (only a) _ (only b)) = names_in a ++ names_in b
  names_in (Not' _ (only a)) = names_in a
  names_in (And' _ (only a) _ (only b)) = names_in a ++ names_in b
  names_in (Or' _ (only a) _ (only b)) = names_in a ++ names_in b

  pub names_in_row : {m : Count} → Row_of-Expr m → List Name
  names_in_row end_of-Expr = []
  names_in_row (more_of-Expr e es) = names_in e ++ names_in_row es
