-- Small laws of truth values and lists.
use Rattle.std.proofs.Common.{◌≡◌, ◌⊎◌, zero, suc, Bool, true, false, cond, ◌&&◌, ◌||◌, List, [], ◌∷◌, ◌++◌, Some, refl, sym, ap, ◌∙◌, subst, inl, inr}
use Rattle.std.specs.List.{All, AllByRecursion, filter, flat_map, list_all, list_any}
use Rattle.std.proofs.lemmas.List.Elements.{All-nil, All-cons}
use Rattle.fort_model.specs.Lists.{IsAmong}

-- a truth value, with what is known of it
pub known : (b : Bool) {C : Type 0} → (b ≡ true → C) → (b ≡ false → C) → C
known true f g = f refl
known false f g = g refl

pub both_parts : (a b : Bool) → (a && b) ≡ true → (a ≡ true) × (b ≡ true)
both_parts true b e = (refl, e)
both_parts false b e = absurd (cc)

pub both_hold : (a b : Bool) → a ≡ true → b ≡ true → (a && b) ≡ true
both_hold a b x y = ap (λ (z : Bool). z && b) x ∙ y

-- ---- members

pub none_among : {A : Type 0} {a : A} {C : Type 0} → IsAmong a [] → C
none_among m = absurd (cc)

pub among_append : {A : Type 0} (a : A) (xs ys : List A) → IsAmong a (xs ++ ys) → IsAmong a xs ⊎ IsAmong a ys
among_append a [] ys m = inr m
among_append a (x ∷ xs) ys (zero, e) = inl (zero, e)
among_append {A = A} a (x ∷ xs) ys (suc k, e) = go (among_append a xs ys (k, e))
  where
    go : IsAmong a xs ⊎ IsAmong a ys → IsAmong a (x ∷ xs) ⊎ IsAmong a ys
    go (inl m) = inl (suc m.0, m.1)
    go (inr m) = inr m

-- what stands in lists that are made of things stands in one of them
pub flat_among : {A B : Type 0} (f : A → List B) (xs : List A) (b : B) → IsAmong b (flat_map f xs) → (x : A) × IsAmong x xs × IsAmong b (f x)
flat_among f [] b m = none_among m
flat_among {A = A} f (x ∷ xs) b m = go (λ k. flat_among f xs b k) (among_append b (f x) (flat_map f xs) m)
  where
    go : (IsAmong b (flat_map f xs) → (y : A) × IsAmong y xs × IsAmong b (f y)) → IsAmong b (f x) ⊎ IsAmong b (flat_map f xs)
        → (y : A) × IsAmong y (x ∷ xs) × IsAmong b (f y)
    go rec (inl m) = (x, (0, refl), m)
    go rec (inr m) = let r = rec m in (r.0, (suc r.1.0, r.1.1), r.2)

-- what passes a filter stands in the list and passes the test
pub filter_passes : {A : Type 0} (test : A → Bool) (xs : List A) (x : A) → IsAmong x (filter test xs) → IsAmong x xs × (test x ≡ true)
filter_passes test [] x m = none_among m
filter_passes {A = A} test (y ∷ ys) x m = known (test y)
    (λ t. kept (λ k. filter_passes test ys x k) t (subst (λ (b : Bool). IsAmong x (cond b (y ∷ filter test ys) (filter test ys))) t m))
    (λ f. later (λ k. filter_passes test ys x k) (subst (λ (b : Bool). IsAmong x (cond b (y ∷ filter test ys) (filter test ys))) f m))
  where
    later : (IsAmong x (filter test ys) → IsAmong x ys × (test x ≡ true)) → IsAmong x (filter test ys) → IsAmong x (y ∷ ys) × (test x ≡ true)
    later rec k = let r = rec k in ((suc r.0.0, r.0.1), r.1)

    kept : (IsAmong x (filter test ys) → IsAmong x ys × (test x ≡ true)) → test y ≡ true → IsAmong x (y ∷ filter test ys) → IsAmong x (y ∷ ys) × (test x ≡ true)
    kept rec t (zero, e) = let f : y ≡ x = cc in ((0, ap Some f), ap test (sym f) ∙ t)
    kept rec t (suc k, e) = later rec (k, e)

-- ---- all of a list

pub tests_append : {A : Type 0} (test : A → Bool) (xs ys : List A) → list_all test xs ≡ true → list_all test ys ≡ true → list_all test (xs ++ ys) ≡ true
tests_append test [] ys h k = k
tests_append test (x ∷ xs) ys h k =
    let b = both_parts (test x) (list_all test xs) h in both_hold (test x) (list_all test (xs ++ ys)) b.0 (tests_append test xs ys b.1 k)

pub tests_front : {A : Type 0} (test : A → Bool) (xs ys : List A) → list_all test (xs ++ ys) ≡ true → list_all test xs ≡ true
tests_front test [] ys h = refl
tests_front test (x ∷ xs) ys h =
    let b = both_parts (test x) (list_all test (xs ++ ys)) h in both_hold (test x) (list_all test xs) b.0 (tests_front test xs ys b.1)

pub tests_back : {A : Type 0} (test : A → Bool) (xs ys : List A) → list_all test (xs ++ ys) ≡ true → list_all test ys ≡ true
tests_back test [] ys h = h
tests_back test (x ∷ xs) ys h = let b = both_parts (test x) (list_all test (xs ++ ys)) h in tests_back test xs ys b.1

-- no thing of a list passes a test that some of it does not pass
pub none_passes : {A : Type 0} (test : A → Bool) (xs : List A) → list_any test xs ≡ false → (x : A) → IsAmong x xs → test x ≡ false
none_passes test [] h x m = none_among m
none_passes test (y ∷ ys) h x (zero, e) = known (test y)
    (λ t. absurd (no_any t))
    (λ f. let same : y ≡ x = cc in ap test (sym same) ∙ f)
  where
    no_any : test y ≡ true → ⊥
    no_any t = let k : true ≡ false = sym (ap (λ (b : Bool). b || list_any test ys) t) ∙ h in absurd (cc)
none_passes test (y ∷ ys) h x (suc k, e) = none_passes test ys (known (test y)
    (λ t. absurd (no_any t))
    (λ f. sym (ap (λ (b : Bool). b || list_any test ys) f) ∙ h)) x (k, e)
  where
    no_any : test y ≡ true → ⊥
    no_any t = let k : true ≡ false = sym (ap (λ (b : Bool). b || list_any test ys) t) ∙ h in absurd (cc)

-- a test that each list made of things passes, their joined list passes
pub flat_tests : {A B : Type 0} (test : B → Bool) (f : A → List B) (xs : List A) → ((x : A) → IsAmong x xs → list_all test (f x) ≡ true) → list_all test (flat_map f xs) ≡ true
flat_tests test f [] h = refl
flat_tests test f (x ∷ xs) h =
    tests_append test (f x) (flat_map f xs) (h x (0, refl)) (flat_tests test f xs (λ y m. h y (suc m.0, m.1)))

pub all_append : {A : Type 0} (P : A → Type 0) (xs ys : List A) → AllByRecursion P xs → AllByRecursion P ys → AllByRecursion P (xs ++ ys)
all_append P [] ys h k = k
all_append P (x ∷ xs) ys h k = (h.0, all_append P xs ys h.1 k)

pub flat_all : {A B : Type 0} (P : B → Type 0) (f : A → List B) (xs : List A) → ((x : A) → IsAmong x xs → AllByRecursion P (f x)) → AllByRecursion P (flat_map f xs)
flat_all P f [] h = tt
flat_all P f (x ∷ xs) h = all_append P (f x) (flat_map f xs) (h x (0, refl)) (flat_all P f xs (λ y m. h y (suc m.0, m.1)))

pub all_mapped : {A : Type 0} (P Q : A → Type 0) (xs : List A) → ((x : A) → P x → Q x) → AllByRecursion P xs → AllByRecursion Q xs
all_mapped P Q [] g h = tt
all_mapped P Q (x ∷ xs) g h = (g x h.0, all_mapped P Q xs g h.1)

-- what holds of all by recursion holds of each
pub all_of : {A : Type 0} (P : A → Type 0) (xs : List A) → AllByRecursion P xs → All P xs
all_of P [] h = All-nil P
all_of P (x ∷ xs) h = All-cons P x xs h.0 (all_of P xs h.1)

pub tests_of : {A : Type 0} (test : A → Bool) (xs : List A) → AllByRecursion (λ x. test x ≡ true) xs → list_all test xs ≡ true
tests_of test [] h = refl
tests_of test (x ∷ xs) h = both_hold (test x) (list_all test xs) h.0 (tests_of test xs h.1)
