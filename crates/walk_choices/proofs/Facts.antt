-- What the first choice says of conditions and signs.
use Rattle.std.proofs.Common.{◌≡◌, ℕ, zero, suc, ◌-◌, ◌≤◌, List, [], ◌∷◌, length, take, drop, get_or, refl, ◌∙◌, subst, arith}
use Rattle.std.proofs.lemmas.Grind.{common_steps}
use Rattle.formula.specs.declared.node.Node.{Node}
use Rattle.formula.specs.declared.function.BuiltIn.TheVariants.{Equal, Less}
use Rattle.formula.specs.Tree.{Tree}
use Rattle.fort_syntax.specs.declared.expr.Expr.{Expr}
use Rattle.fort_model.specs.Conditions.{sight}
use Rattle.fort_model.specs.Seen.{◌>>=◌, ◌>>◌, see}
use Rattle.fort_model.specs.Senses.{make2, natural, negated, of_terms}
use Rattle.fort_model.specs.WalkCalls.{Sight}
use Rattle.fort_model.specs.WalkExpr.{value}
use Rattle.fort_model.specs.WalkStmt.{sign_fact, taken, truth_fact}
use Rattle.walk_setting.specs.declared.setting.Setting.{Setting}
use Rattle.walk_setting.specs.Settings.{DoesIn, PerformsIn, seen_from}
use Rattle.walk_setting.proofs.Done.{bind_assoc, performs_as, performs_past}
use Rattle.walk_state.specs.declared.walk.Walk.{Walk}
use Rattle.walk_state.specs.Moments.{Did, Moment, moment}
use Rattle.walk_state.proofs.Parts.{Grew}
use Rattle.walk_values.specs.Parts.{Does}
use Rattle.walk_values.proofs.Checked.{did_after}
use Rattle.walk_choices.specs.Choices.{decided, first_choice, is_false, is_true}

-- ---- conditions

module _ (w : Sight Tree) (v : Tree) where
  truth_of_one : (cs : List ℕ) → first_choice cs ≡ 1 → v ≡ truth_fact w v cs
  truth_of_one [] e = absurd (grind arith)
  truth_of_one (zero ∷ cs) e = absurd (grind arith)
  truth_of_one (suc zero ∷ cs) e = refl
  truth_of_one (suc (suc c) ∷ cs) e = absurd (grind arith)

  truth_of_other : (cs : List ℕ) → (first_choice cs ≡ 1 → ⊥) → negated w.sense v ≡ truth_fact w v cs
  truth_of_other [] h = refl
  truth_of_other (zero ∷ cs) h = refl
  truth_of_other (suc zero ∷ cs) h = absurd (h refl)
  truth_of_other (suc (suc c) ∷ cs) h = refl

module _ (pool : List Node) (s : Setting) (card : ℕ) (e : Expr) (cs : List ℕ) (m0 m1 : Moment) where
  -- by the choice 1 a condition is true
  pub decided_true : first_choice cs ≡ 1 → DoesIn pool s m0 (λ w. is_true w card m0.now e) m1 tt → PerformsIn pool s m0 (λ w. decided w card m0.now e cs) m1
  decided_true one d =
      performs_as pool s m0 m1 (λ w. is_true w card m0.now e >> see m0.now) (λ w. decided w card m0.now e cs)
      (λ p r.
      let w = seen_from s p in
      bind_assoc (value w card m0.now e) (λ v. taken w v) (λ _. see m0.now) ∙ (λ i. value w card m0.now e >>= λ v. taken w (truth_of_one w v cs one i) >> see m0.now))
      (performs_past pool s m0 m1 (λ w. is_true w card m0.now e) tt d)

  -- by another one it is false
  pub decided_false : (first_choice cs ≡ 1 → ⊥) → DoesIn pool s m0 (λ w. is_false w card m0.now e) m1 tt → PerformsIn pool s m0 (λ w. decided w card m0.now e cs) m1
  decided_false other d =
      performs_as pool s m0 m1 (λ w. is_false w card m0.now e >> see m0.now) (λ w. decided w card m0.now e cs)
      (λ p r.
      let w = seen_from s p in
      bind_assoc (value w card m0.now e) (λ v. taken w (negated w.sense v)) (λ _. see m0.now)
      ∙ (λ i. value w card m0.now e >>= λ v. taken w (truth_of_other w v cs other i) >> see m0.now))
      (performs_past pool s m0 m1 (λ w. is_false w card m0.now e) tt d)

-- ---- signs

module _ (w : Sight Tree) (v : Tree) where
  sign_of_one : (cs : List ℕ) → first_choice cs ≡ 1 → make2 w.sense Less v (natural w.sense 0) ≡ sign_fact w v cs
  sign_of_one [] e = absurd (grind arith)
  sign_of_one (zero ∷ cs) e = absurd (grind arith)
  sign_of_one (suc zero ∷ cs) e = refl
  sign_of_one (suc (suc c) ∷ cs) e = absurd (grind arith)

  sign_of_two : (cs : List ℕ) → first_choice cs ≡ 2 → make2 w.sense Equal v (natural w.sense 0) ≡ sign_fact w v cs
  sign_of_two [] e = absurd (grind arith)
  sign_of_two (zero ∷ cs) e = absurd (grind arith)
  sign_of_two (suc zero ∷ cs) e = absurd (grind arith)
  sign_of_two (suc (suc zero) ∷ cs) e = refl
  sign_of_two (suc (suc (suc c)) ∷ cs) e = absurd (grind arith)

  sign_of_other : (cs : List ℕ) → (first_choice cs ≡ 1 → ⊥) → (first_choice cs ≡ 2 → ⊥) → make2 w.sense Less (natural w.sense 0) v ≡ sign_fact w v cs
  sign_of_other [] h k = refl
  sign_of_other (zero ∷ cs) h k = refl
  sign_of_other (suc zero ∷ cs) h k = absurd (h refl)
  sign_of_other (suc (suc zero) ∷ cs) h k = absurd (k refl)
  sign_of_other (suc (suc (suc c)) ∷ cs) h k = refl

module _ (m0 m1 : Moment) (v : Tree) (cs : List ℕ) where
  -- by the choice 1 a value is negative
  pub takes_below : first_choice cs ≡ 1 → Does m0 (λ w. taken w (make2 of_terms Less v (natural of_terms 0))) m1 tt → Does m0 (λ w. taken w (sign_fact w v cs)) m1 tt
  takes_below one d p i u =
      let w = sight of_terms p i u in
      subst (λ (t : Tree). Did m0 (taken w t) m1 tt) (sign_of_one w v cs one) (d p i u)

  -- by the choice 2 it is zero
  pub takes_zero : first_choice cs ≡ 2 → Does m0 (λ w. taken w (make2 of_terms Equal v (natural of_terms 0))) m1 tt → Does m0 (λ w. taken w (sign_fact w v cs)) m1 tt
  takes_zero two d p i u =
      let w = sight of_terms p i u in
      subst (λ (t : Tree). Did m0 (taken w t) m1 tt) (sign_of_two w v cs two) (d p i u)

  -- by another one it is positive
  pub takes_above : (first_choice cs ≡ 1 → ⊥) → (first_choice cs ≡ 2 → ⊥) → Does m0 (λ w. taken w (make2 of_terms Less (natural of_terms 0) v)) m1 tt → Does m0 (λ w. taken w (sign_fact w v cs)) m1 tt
  takes_above h k d p i u =
      let w = sight of_terms p i u in
      subst (λ (t : Tree). Did m0 (taken w t) m1 tt) (sign_of_other w v cs h k) (d p i u)

-- ---- a fact of a term that was made before

pub took_after : (w0 w1 : Walk) (m : Moment) (t0 t1 : Tree) → Grew w0 w1 → t1 ≡ t0 → Does (moment w1) (λ w. taken w t1) m tt → Does (moment w0) (λ w. taken w t0) m tt
took_after w0 w1 m t0 t1 g is d p i u = did_after (moment w0) (moment w1) m (λ (t : Tree). taken (sight of_terms p i u) t) t0 t1 tt tt g.same is refl (d p i u)

-- ---- the first choice and the others

pub first_rest : (cs : List ℕ) → 1 ≤ length cs → cs ≡ get_or cs 0 0 ∷ take (length cs - 1) (drop 1 cs)
first_rest [] h = absurd (omega arith)
first_rest (c ∷ cs) h = grind (arith, common_steps)
