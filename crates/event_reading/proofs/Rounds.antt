-- Rounds of reading parameters.
use Rattle.std.proofs.Common.{◌≡◌, ℕ, zero, suc, ◌-◌, ◌<◌, Bool, true, false, if◌then◌else◌, Some, None, List, [], ◌∷◌, ◌++◌, length, drop, codes, refl, sym, ap, ◌∙◌, arith}
use Rattle.fort_syntax.specs.Misspelled.{begins}
use Rattle.event_reading.specs.Lines.{more_parameters}
use Rattle.event_reading.specs.Readings.{after, parameter_at}

ends : (w t r : List ℕ) (b : Bool) → begins w t ≡ b → after w t ≡ Some r → (b ≡ true) × (drop (length w) t ≡ r)
ends w t r true h e = (refl, let some : Some (drop (length w) t) ≡ Some r = (λ i. if sym h i then Some (drop (length w) t) else None) ∙ e in cc)
ends w t r false h e = absurd (let none : None ≡ Some r = (λ i. if sym h i then Some (drop (length w) t) else None) ∙ e in cc)

ends_not : (w t : List ℕ) (b : Bool) → begins w t ≡ b → after w t ≡ None → b ≡ false
ends_not w t false h e = refl
ends_not w t true h e = absurd (let some : Some (drop (length w) t) ≡ None = (λ i. if sym h i then Some (drop (length w) t) else None) ∙ e in cc)

-- no round is left
pub more_none : (ps : List (List ℕ)) (t : List ℕ) (n : ℕ) → n ≡ 0 → more_parameters n ps t ≡ None
more_none ps t zero e = refl
more_none ps t (suc n) e = absurd (omega arith)

-- the closing bracket
pub more_ends : (ps : List (List ℕ)) (t r : List ℕ) (n : ℕ) → 0 < n → after (codes ")") t ≡ Some r → more_parameters n ps t ≡ Some (ps, r)
more_ends ps t r zero lt e = absurd (omega arith)
more_ends ps t r (suc n) lt e = let h = ends (codes ")") t r (begins (codes ")") t) refl e in rw h.0 (ap (λ l. Some (ps, l)) h.1)

-- neither a closing bracket nor a blank
pub more_lacks : (ps : List (List ℕ)) (t : List ℕ) (n : ℕ) → after (codes ")") t ≡ None → after (codes " ") t ≡ None → more_parameters n ps t ≡ None
more_lacks ps t zero e f = refl
more_lacks ps t (suc n) e f = rw (ends_not (codes ")") t (begins (codes ")") t) refl e, f) refl

-- a blank and no parameter
pub more_lacks_word : (ps : List (List ℕ)) (t z : List ℕ) (n : ℕ) → after (codes ")") t ≡ None → after (codes " ") t ≡ Some z → parameter_at z ≡ None → more_parameters n ps t ≡ None
more_lacks_word ps t z zero e f g = refl
more_lacks_word ps t z (suc n) e f g = rw (ends_not (codes ")") t (begins (codes ")") t) refl e, f, g) refl

-- one more parameter
pub more_goes : (ps : List (List ℕ)) (t z p r : List ℕ) (n : ℕ) → 0 < n → after (codes ")") t ≡ None → after (codes " ") t ≡ Some z → parameter_at z ≡ Some (p, r) → more_parameters n ps t ≡ more_parameters (n - 1) (ps ++ p ∷ []) r
more_goes ps t z p r zero lt e f g = absurd (omega arith)
more_goes ps t z p r (suc n) lt e f g =
    let less : n ≡ suc n - 1 = omega arith in
    rw (ends_not (codes ")") t (begins (codes ")") t) refl e, f, g) (ap (λ m. more_parameters m (ps ++ p ∷ []) r) less)
