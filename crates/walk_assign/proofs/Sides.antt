-- What the left side of an assignment comes to.
use Rattle.std.proofs.Common.{◌≡◌, ℕ, List}
use Rattle.formula.specs.Tree.{Tree}
use Rattle.fort_syntax.specs.declared.expr.Expr.{Expr}
use Rattle.fort_syntax.specs.declared.expr.Expr.TheViews as view
use Rattle.fort_syntax.specs.declared.name.Name.{Name}
use Rattle.fort_model.specs.Seen.{Named, ◌>>=◌}
use Rattle.fort_model.specs.WalkCalls.{Sight}
use Rattle.fort_model.specs.WalkStmt as forms
use Rattle.walk_assign.specs.Parts.{element_assigned, stored}
use Rattle.walk_expr.proofs.Forms.{values_behind}

pub of_element : (w : Sight Tree) (card : ℕ) (now : Named Tree) (a : Name) (args : List Expr) (v : Tree) → forms.assign w card now (view.Apply a args) v ≡ element_assigned w card now a args v
of_element w card now a args v = λ i. values_behind w card now args i >>= λ is. stored w card now a is v
