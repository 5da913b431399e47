-- Small laws of tests on lists, and of lists with one place changed.
use Rattle.std.proofs.Common.{◌≡◌, ℕ, zero, suc, ◌<◌, Bool, true, false, cond, ◌||◌, List, [], ◌∷◌, ◌++◌, Some, slice_get, set, length, reverse, refl, sym, ap, ◌∙◌, subst, arith, ◌⊎◌, inl, inr}
use Rattle.std.specs.List.{filter, list_any}
use Rattle.std.proofs.lemmas.List.{reverse-append}
use Rattle.fort_syntax.specs.declared.name.Name.{Name}
use Rattle.formula.specs.Atoms.{is_among}
use Rattle.fort_model.specs.Lists.{IsAmong}
use Rattle.fort_laws.proofs.DeclaredNames.{among_named, named_among}
use Rattle.fort_laws.proofs.Kept.{among_left, among_right}
use Rattle.fort_laws.proofs.Near.{known}
use Rattle.fort_laws.proofs.RulesKept.{passes_filter}
use Rattle.fort_laws.proofs.Small.{filter_passes}

-- tests that agree on a list
pub any_same : {A : Type 0} (f g : A → Bool) (xs : List A) → ((x : A) → IsAmong x xs → f x ≡ g x) → list_any f xs ≡ list_any g xs
any_same f g [] h = refl
any_same f g (x ∷ xs) h =
    ap (λ (b : Bool). b || list_any f xs) (h x (0, refl)) ∙ ap (λ (b : Bool). g x || b) (any_same f g xs (λ y m. h y (suc m.0, m.1)))

pub filter_same : {A : Type 0} (f g : A → Bool) (xs : List A) → ((x : A) → IsAmong x xs → f x ≡ g x) → filter f xs ≡ filter g xs
filter_same f g [] h = refl
filter_same {A = A} f g (x ∷ xs) h =
    ap (λ (b : Bool). cond b (x ∷ filter f xs) (filter f xs)) (h x (0, refl))
    ∙ ap (λ (ys : List A). cond (g x) (x ∷ ys) ys) (filter_same f g xs (λ y m. h y (suc m.0, m.1)))

-- something in a list passes a test, so the list has some
pub any_passes : {A : Type 0} (test : A → Bool) (xs : List A) (x : A) → IsAmong x xs → test x ≡ true → list_any test xs ≡ true
any_passes test [] x m t = absurd (cc)
any_passes test (y ∷ ys) x (zero, e) t = let q : y ≡ x = cc in ap (λ (b : Bool). b || list_any test ys) (ap test q ∙ t)
any_passes test (y ∷ ys) x (suc k, e) t = or_right (test y) (any_passes test ys x (k, e) t)
  where
    or_right : (a : Bool) {b : Bool} → b ≡ true → (a || b) ≡ true
    or_right true h = refl
    or_right false h = h

-- one of two tests is passed
pub either : (a b : Bool) → (a || b) ≡ true → (a ≡ true) ⊎ (b ≡ true)
either true b h = inl refl
either false b h = inr h

pub left_holds : (a b : Bool) → a ≡ true → (a || b) ≡ true
left_holds a b h = ap (λ (z : Bool). z || b) h

pub right_holds : (a b : Bool) → b ≡ true → (a || b) ≡ true
right_holds true b h = refl
right_holds false b h = h

-- what a filter keeps is what passes
pub among_filtered : (f : Name → Bool) (xs : List Name) (x : Name) → IsAmong x xs → is_among x (filter f xs) ≡ f x
among_filtered f xs x m = known (f x)
    (λ t. among_named (filter f xs) x (passes_filter f xs x m t) ∙ sym t)
    (λ n. known (is_among x (filter f xs))
    (λ k. absurd (clash (f x) (filter_passes f xs x (named_among (filter f xs) x k)).1 n))
    (λ k. k ∙ sym n))
  where
    clash : (b : Bool) → b ≡ true → b ≡ false → ⊥
    clash b t f = cc

-- ---- one place changed

pub at_place : {A : Type 0} (xs : List A) (i : ℕ) (v : A) → i < length xs → slice_get (set xs i v) i ≡ Some v
at_place [] i v h = absurd (omega arith)
at_place (x ∷ xs) zero v h = refl
at_place (x ∷ xs) (suc i) v h = at_place xs i v (omega arith)

pub at_other : {A : Type 0} (xs : List A) (i k : ℕ) (v : A) → (k ≡ i → ⊥) → slice_get (set xs i v) k ≡ slice_get xs k
at_other [] i k v h = refl
at_other (x ∷ xs) zero zero v h = absurd (h refl)
at_other (x ∷ xs) zero (suc k) v h = refl
at_other (x ∷ xs) (suc i) zero v h = refl
at_other (x ∷ xs) (suc i) (suc k) v h = at_other xs i k v (λ e. h (ap suc e))

-- ---- turned lists

pub turned : {A : Type 0} (x : A) (xs ys : List A) → reverse (x ∷ xs) ++ ys ≡ reverse xs ++ (x ∷ ys)
turned {A = A} x xs ys = ap (λ (zs : List A). zs ++ ys) (reverse-append (x ∷ []) xs) ∙ joined (reverse xs)
  where
    joined : (zs : List A) → (zs ++ (x ∷ [])) ++ ys ≡ zs ++ (x ∷ ys)
    joined [] = refl
    joined (z ∷ zs) = ap (λ (rest : List A). z ∷ rest) (joined zs)

pub nothing_behind : {A : Type 0} (xs : List A) → xs ++ [] ≡ xs
nothing_behind [] = refl
nothing_behind {A = A} (x ∷ xs) = ap (λ (ys : List A). x ∷ ys) (nothing_behind xs)

pub among_turned : {A : Type 0} (xs : List A) (x : A) → IsAmong x xs → IsAmong x (reverse xs)
among_turned [] x m = absurd (cc)
among_turned (y ∷ ys) x (zero, e) =
    let q : x ≡ y = cc in
    subst (IsAmong x) (sym (reverse-append (y ∷ []) ys)) (among_right x (reverse ys) (y ∷ []) (0, ap Some (sym q)))
among_turned (y ∷ ys) x (suc k, e) =
    subst (IsAmong x) (sym (reverse-append (y ∷ []) ys)) (among_left x (reverse ys) (y ∷ []) (among_turned ys x (k, e)))
