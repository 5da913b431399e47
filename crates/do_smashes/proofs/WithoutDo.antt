-- A unit without a DO keeps the rule.
use Rattle.std.proofs.Common.{◌≡◌, ℕ, suc, Bool, false, cond, ◌||◌, List, [], ◌∷◌, ◌++◌, Some, None, refl, sym, ap, ◌∙◌}
use Rattle.std.specs.List.{list_any}
use Rattle.fort_syntax.specs.declared.rule.Rule.{Rule}
use Rattle.fort_syntax.specs.declared.stmt.Stmt.{Stmt}
use Rattle.fort_syntax.specs.declared.stmt.Stmt.TheVariants.{Do}
use Rattle.fort_syntax.specs.declared.unit.Line.{Line}
use Rattle.fort_syntax.specs.declared.unit.Unit.{Unit as Routine}
use Rattle.fort_model.specs.Program.{Program}
use Rattle.fort_model.specs.Ranges.{DoRange, do_of, dos_from, dos}
use Rattle.fort_model.specs.Rules.{breaks_do, smashes_do, uses_itself}
use Rattle.fort_laws.proofs.RulesKept.{neither}
use Rattle.unit_faults.specs.Sooner.{first_at, fault_at}
use Rattle.do_smashes.specs.Clear.{is_do}

no_range : (u : Routine) (pc : ℕ) (s : Stmt) → is_do s ≡ false → do_of u pc s ≡ []
no_range u pc (Do label x first last step) h = absurd (cc)
no_range u pc s h = refl

no_ranges : (u : Routine) (pc : ℕ) (lines : List Line) → list_any (λ line. is_do line.stmt) lines ≡ false → dos_from u pc lines ≡ []
no_ranges u pc [] h = refl
no_ranges u pc (line ∷ lines) h =
    let parts = neither (is_do line.stmt) (list_any (λ line. is_do line.stmt) lines) h in
    ap (λ (ds : List DoRange). ds ++ dos_from u (suc pc) lines) (no_range u pc line.stmt parts.0) ∙ no_ranges u (suc pc) lines parts.1

no_self : (s : Stmt) → is_do s ≡ false → uses_itself s ≡ false
no_self (Do label x first last step) h = absurd (cc)
no_self s h = refl

module _ (rule : Rule) (p : Program) (u : Routine) (none : dos u ≡ []) where
  pub unbroken : (n : ℕ) (lines : List Line) → list_any (λ line. is_do line.stmt) lines ≡ false → first_at rule (breaks_do p u) n lines ≡ None
  unbroken n [] h = refl
  unbroken n (line ∷ lines) h =
      let parts = neither (is_do line.stmt) (list_any (λ line. is_do line.stmt) lines) h in
      let whole : breaks_do p u n line.stmt ≡ false =
      ap (λ (b : Bool). b || list_any (smashes_do p u n line.stmt) (dos u)) (no_self line.stmt parts.0) ∙ ap (list_any (smashes_do p u n line.stmt)) none in
      ap (λ (b : Bool). cond b (Some (fault_at rule line.card)) (first_at rule (breaks_do p u) (suc n) lines)) whole ∙ unbroken (suc n) lines parts.1

-- a unit without a DO
pub kept_without : (rule : Rule) (p : Program) (u : Routine) (lines : List Line) (has : Bool) → lines ≡ u.lines → has ≡ list_any (λ line. is_do line.stmt) lines → has ≡ false
    → None ≡ first_at rule (breaks_do p u) 0 u.lines
kept_without rule p u lines has same is lacks =
    let none : list_any (λ line. is_do line.stmt) u.lines ≡ false =
    sym (ap (λ (ls : List Line). list_any (λ line. is_do line.stmt) ls) same) ∙ (sym is ∙ lacks) in
    sym (unbroken rule p u (no_ranges u 0 u.lines none) 0 u.lines none)
