-- What is shown for each place of a list holds wherever something stands in it.
use Rattle.std.proofs.Common.{◌≡◌, ℕ, zero, suc, Bool, true, List, [], ◌∷◌, Some, slice_get, sym, ap, ◌∙◌, subst}
use Rattle.std.specs.List.{list_all}
use Rattle.fort_model.specs.Lists.{IsAmong}
use Rattle.fort_laws.proofs.Small.{both_parts}

-- what is shown for the first place, and for the others
infixr 1 ◌also◌
abbrev pub ◌also◌ : {A B : Type 0} → A → B → A × B
◌also◌ a b = (a, b)

abbrev pub AtEach : {A : Type 0} → List A → (ℕ → A → Type 0) → Type 0
AtEach [] P = Unit {0}
AtEach (x ∷ xs) P = P 0 x × AtEach xs (λ k. P (suc k))

pub at_each : {A : Type 0} (xs : List A) (P : ℕ → A → Type 0) → AtEach xs P → (k : ℕ) (x : A) → slice_get xs k ≡ Some x → P k x
at_each [] P h k x e = absurd (cc)
at_each {A = A} (y ∷ xs) P h zero x e = let q : y ≡ x = cc in subst (λ (z : A). P 0 z) q h.0
at_each (y ∷ xs) P h (suc k) x e = at_each xs (λ j. P (suc j)) h.1 k x e

-- each of some passes a test that all pass
pub all_pass : {A : Type 0} (test : A → Bool) (xs : List A) → list_all test xs ≡ true → (k : ℕ) (x : A) → slice_get xs k ≡ Some x → test x ≡ true
all_pass test [] h k x e = absurd (cc)
all_pass test (y ∷ xs) h zero x e = let q : y ≡ x = cc in ap test (sym q) ∙ (both_parts (test y) (list_all test xs) h).0
all_pass test (y ∷ xs) h (suc k) x e = all_pass test xs (both_parts (test y) (list_all test xs) h).1 k x e

pub nothing_among : {A : Type 0} (x : A) → IsAmong x [] → ⊥
nothing_among x m = absurd (cc)
