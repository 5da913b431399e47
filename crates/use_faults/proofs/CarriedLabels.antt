-- The labels that a logical IF names.
use Rattle.std.proofs.Common.{◌≡◌, refl}
use Rattle.fort_syntax.specs.Uses.{used_labels}
use Rattle.fort_syntax.specs.declared.expr.Expr.{Expr}
use Rattle.fort_syntax.specs.declared.stmt.Stmt.{Stmt}
use Rattle.fort_syntax.specs.declared.stmt.Stmt.TheViews as stmt

pub labels_by_if : (e : Expr) (s : Stmt) → used_labels (stmt.LogicalIf e s) ≡ used_labels s
unfolding Rattle.fort_syntax.specs.declared.stmt.Stmt.TheBlock.hidden-the_row-Stmt-0 denote.Hole.Carrier.hidden
labels_by_if e s = refl
