-- What a logical IF does is what the statement that it carries does.
use Rattle.std.proofs.Common.{◌≡◌, ℕ, refl}
use Rattle.fort_syntax.specs.declared.expr.Expr.{Expr}
use Rattle.fort_syntax.specs.declared.stmt.Stmt.{Stmt}
use Rattle.fort_syntax.specs.declared.stmt.Stmt.TheViews as stmt
use Rattle.fort_syntax.specs.declared.unit.Unit.{Unit as Routine}
use Rattle.fort_model.specs.Ranges.{is_jump, is_bad_last, jumps_badly}

pub last_by_if : (e : Expr) (s : Stmt) → is_bad_last (stmt.LogicalIf e s) ≡ is_jump s
unfolding Rattle.fort_syntax.specs.declared.stmt.Stmt.TheBlock.hidden-the_row-Stmt-0 denote.Hole.Carrier.hidden
last_by_if e s = refl

pub jumps_by_if : (u : Routine) (pc : ℕ) (e : Expr) (s : Stmt) → jumps_badly u pc (stmt.LogicalIf e s) ≡ jumps_badly u pc s
unfolding Rattle.fort_syntax.specs.declared.stmt.Stmt.TheBlock.hidden-the_row-Stmt-0 denote.Hole.Carrier.hidden
jumps_by_if u pc e s = refl
