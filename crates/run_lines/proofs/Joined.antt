-- The parts of a statement's code one behind the other.
use Rattle.std.proofs.Common.{◌≡◌, ℕ, suc, ◌+◌, true, List, [], ◌∷◌, ◌++◌, length, refl, ap, ◌∙◌, append_assoc, arith}
use Rattle.std.specs.Prelude.{Result, Ok, Err, OnOk}
use Rattle.fort_syntax.specs.declared.expr.Expr.{Expr}
use Rattle.fort_syntax.specs.declared.name.Name.{Name}
use Rattle.fort_syntax.specs.declared.stmt.Stmt.{Stmt}
use Rattle.fort_syntax.specs.declared.stmt.Stmt.TheViews as view
use Rattle.fort_syntax.specs.declared.unit.Unit.{Unit as Routine}
use Rattle.fort_model.specs.Calls.{sites_in}
use Rattle.run_shapes.specs.declared.instr.Instr.{Instr}
use Rattle.run_shapes.specs.declared.instr.Instr.TheVariants.{Turn}
use Rattle.run_coding.specs.Pushed.{pushed}
use Rattle.run_lines.specs.Stated.{aims, stmt_pushed}

-- what holds anyway holds where all went well
pub on_ok : {A E : Type 0} (r : Result A E) {P : Type 0} → P → OnOk r P
on_ok (Ok a) p = p
on_ok (Err e) p = tt

pub and_one : (n : ℕ) → suc n ≡ n + 1
and_one n = omega arith

pub turned : (o0 o1 o2 o3 p rest : List Instr) (t b : Instr) → o1 ≡ o0 ++ p → o2 ≡ o1 ++ t ∷ [] → o3 ≡ o2 ++ b ∷ [] → o3 ++ rest ≡ o0 ++ (p ++ (t ∷ b ∷ rest))
turned o0 o1 o2 o3 p rest t b first second third =
    ap (λ xs. xs ++ rest) (third ∙ ap (λ xs. xs ++ b ∷ []) second)
    ∙ append_assoc (o1 ++ t ∷ []) (b ∷ []) rest
    ∙ append_assoc o1 (t ∷ []) (b ∷ rest)
    ∙ ap (λ xs. xs ++ (t ∷ b ∷ rest)) first
    ∙ append_assoc o0 p (t ∷ b ∷ rest)

pub aims_carried : (u : Routine) (e : Expr) (s : Stmt) → aims u (view.LogicalIf e s) ≡ aims u s
unfolding Rattle.fort_syntax.specs.declared.stmt.Stmt.TheBlock.hidden-the_row-Stmt-0 denote.Hole.Carrier.hidden
aims_carried u e s = refl

pub pushed_carried : (u : Routine) (names : List Name) (behind over : Instr) (pc place k : ℕ) (e : Expr) (s : Stmt)
    → stmt_pushed u names behind over pc place k (view.LogicalIf e s)
    ≡ pushed u names true k e ++ (Turn ∷ behind ∷ stmt_pushed u names behind over pc place (k + length (sites_in u e)) s)
unfolding Rattle.fort_syntax.specs.declared.stmt.Stmt.TheBlock.hidden-the_row-Stmt-0 denote.Hole.Carrier.hidden
pushed_carried u names behind over pc place k e s = refl
