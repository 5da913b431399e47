-- Which names of the caller a call smashes on a walk.
use Rattle.std.proofs.Common.{◌≡◌, ℕ, zero, suc, Bool, true, false, cond, List, [], ◌∷◌, Some, slice_get, refl, sym, ap, ◌∙◌, subst}
use Rattle.formula.specs.declared.value.Value.{Value}
use Rattle.fort_syntax.specs.declared.name.Name.{Name}
use Rattle.fort_model.specs.Lists.{IsAmong}
use Rattle.fort_model.specs.WalkCalls.{Sight, Operand, Bare, Part, Computed, smashed_actuals}
use Rattle.fort_laws.proofs.RulesKept.{more_among}

module _ (w : Sight Value) (smashed : Name → Bool) where
  pub smashed_among : (ds : List Name) (os : List (Operand Value)) (n : ℕ) (d y : Name) (v : Value) → slice_get ds n ≡ Some d → smashed d ≡ true → slice_get os n ≡ Some (Bare y v)
      → IsAmong y (smashed_actuals w smashed ds os)
  smashed_among [] os n d y v e t h = absurd (cc)
  smashed_among (z ∷ ds) [] n d y v e t h = absurd (cc)
  smashed_among (z ∷ ds) (Bare x u ∷ os) zero d y v e t h =
      let f : z ≡ d = cc in let q : x ≡ y = cc in
      subst (λ (b : Bool). IsAmong y (cond b (x ∷ smashed_actuals w smashed ds os) (smashed_actuals w smashed ds os))) (sym (ap smashed f ∙ t)) (0, ap Some q)
  smashed_among (z ∷ ds) (Bare x u ∷ os) (suc n) d y v e t h = more_among (smashed z) y x (smashed_actuals w smashed ds os) (smashed_among ds os n d y v e t h)
  smashed_among (z ∷ ds) (Part u ∷ os) zero d y v e t h = absurd (cc)
  smashed_among (z ∷ ds) (Part u ∷ os) (suc n) d y v e t h = smashed_among ds os n d y v e t h
  smashed_among (z ∷ ds) (Computed u ∷ os) zero d y v e t h = absurd (cc)
  smashed_among (z ∷ ds) (Computed u ∷ os) (suc n) d y v e t h = smashed_among ds os n d y v e t h

  -- a bare actual of a smashed dummy
  pub record SmashedAt (ds : List Name) (os : List (Operand Value)) (y : Name) : Type 0 where
    pub at : ℕ
    pub dummy : Name
    pub value : Value
    pub is_dummy : slice_get ds at ≡ Some dummy
    pub is_smashed : smashed dummy ≡ true
    pub is_operand : slice_get os at ≡ Some (Bare y value)

  one_on : (z : Name) (o : Operand Value) (ds : List Name) (os : List (Operand Value)) (y : Name) → SmashedAt ds os y → SmashedAt (z ∷ ds) (o ∷ os) y
  one_on z o ds os y r = record { at = suc r.at; dummy = r.dummy; value = r.value; is_dummy = r.is_dummy; is_smashed = r.is_smashed; is_operand = r.is_operand }

  pub among_smashed : (ds : List Name) (os : List (Operand Value)) (y : Name) → IsAmong y (smashed_actuals w smashed ds os) → SmashedAt ds os y
  among_smashed [] os y m = absurd (cc)
  among_smashed (z ∷ ds) [] y m = absurd (cc)
  among_smashed (z ∷ ds) (Bare x u ∷ os) y m = by_test (smashed z) refl m (λ k. among_smashed ds os y k)
    where
      rest : List Name
      rest = smashed_actuals w smashed ds os

      by_test : (t : Bool) → smashed z ≡ t → IsAmong y (cond t (x ∷ rest) rest) → (IsAmong y rest → SmashedAt ds os y) → SmashedAt (z ∷ ds) (Bare x u ∷ os) y
      by_test true t (zero, e) rec = let q : x ≡ y = cc in record { at = 0; dummy = z; value = u; is_dummy = refl; is_smashed = t; is_operand = ap (λ (n : Name). Some (Bare n u)) q }
      by_test true t (suc k, e) rec = one_on z (Bare x u) ds os y (rec (k, e))
      by_test false t k rec = one_on z (Bare x u) ds os y (rec k)
  among_smashed (z ∷ ds) (Part u ∷ os) y m = one_on z (Part u) ds os y (among_smashed ds os y m)
  among_smashed (z ∷ ds) (Computed u ∷ os) y m = one_on z (Computed u) ds os y (among_smashed ds os y m)
