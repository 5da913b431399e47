-- What a logical IF sets.
use Rattle.std.proofs.Common.{◌≡◌, refl}
use Rattle.fort_syntax.specs.declared.expr.Expr.{Expr}
use Rattle.fort_syntax.specs.declared.stmt.Stmt.{Stmt}
use Rattle.fort_syntax.specs.declared.stmt.Stmt.TheViews as stmt
use Rattle.fort_model.specs.Smashes.{set_by}

pub set_by_carried : (e : Expr) (s : Stmt) → set_by (stmt.LogicalIf e s) ≡ set_by s
unfolding Rattle.fort_syntax.specs.declared.stmt.Stmt.TheBlock.hidden-the_row-Stmt-0 denote.Hole.Carrier.hidden
set_by_carried e s = refl
