-- Members of lists.
use Rattle.std.proofs.Common.{◌≡◌, ◌⊎◌, inl, inr, Bool, true, false, cond, List, [], ◌∷◌, ◌++◌, map, flat_map, refl, sym, ap, ◌∙◌, subst, rules}
use Rattle.std.specs.Prelude.{◌||◌}
use Rattle.std.specs.List.{list_any, list_all}
use Rattle.fort_syntax.specs.Scopes.{kept}
use Rattle.deck_laws.proofs.Tests.{first_true, second_true, both_true, first_false, second_false, both_false, case, clash}

-- a member of a list
pub data IsIn {A : Type 0} (a : A) : List A → Type 0 where
  here : {x : A} {xs : List A} → x ≡ a → IsIn a (x ∷ xs)
  there : {x : A} {xs : List A} → IsIn a xs → IsIn a (x ∷ xs)

pub in_left : {A : Type 0} {a : A} (xs ys : List A) → IsIn a xs → IsIn a (xs ++ ys)
in_left [] ys h = elim h [ ]
in_left (x ∷ xs) ys (here e) = here e
in_left (x ∷ xs) ys (there h) = there (in_left xs ys h)

pub in_right : {A : Type 0} {a : A} (xs ys : List A) → IsIn a ys → IsIn a (xs ++ ys)
in_right [] ys h = h
in_right (x ∷ xs) ys h = there (in_right xs ys h)

pub in_either : {A : Type 0} {a : A} (xs ys : List A) → IsIn a (xs ++ ys) → IsIn a xs ⊎ IsIn a ys
in_either [] ys h = inr h
in_either (x ∷ xs) ys (here e) = inl (here e)
in_either {A = A} {a = a} (x ∷ xs) ys (there h) = further (in_either xs ys h)
  where
    further : IsIn a xs ⊎ IsIn a ys → IsIn a (x ∷ xs) ⊎ IsIn a ys
    further (inl k) = inl (there k)
    further (inr k) = inr k

-- one of two cases
pub either : {A B C : Type 0} → A ⊎ B → (A → C) → (B → C) → C
either (inl a) f g = f a
either (inr b) f g = g b

pub in_map : {A B : Type 0} (f : A → B) {x : A} (xs : List A) → IsIn x xs → IsIn (f x) (map f xs)
in_map f [] h = elim h [ ]
in_map f (y ∷ xs) (here e) = here (ap f e)
in_map f (y ∷ xs) (there h) = there (in_map f xs h)

pub map_in : {A B : Type 0} (f : A → B) {b : B} (xs : List A) → IsIn b (map f xs) → (x : A) × IsIn x xs × (f x ≡ b)
map_in f [] h = elim h [ ]
map_in f (y ∷ xs) (here e) = (y, here refl, e)
map_in f (y ∷ xs) (there h) = let m = map_in f xs h in (m.0, there m.1, m.2)

pub in_flat : {A B : Type 0} (f : A → List B) {b : B} {x : A} (xs : List A) → IsIn x xs → IsIn b (f x)
    → IsIn b (flat_map f xs)
in_flat f [] h k = elim h [ ]
in_flat f {b = b} (y ∷ xs) (here e) k = in_left (f y) (flat_map f xs) (subst (λ z. IsIn b (f z)) (sym e) k)
in_flat f (y ∷ xs) (there h) k = in_right (f y) (flat_map f xs) (in_flat f xs h k)

pub flat_in : {A B : Type 0} (f : A → List B) {b : B} (xs : List A) → IsIn b (flat_map f xs) → (x : A) × IsIn x xs
    × IsIn b (f x)
flat_in f [] h = elim h [ ]
flat_in f (y ∷ xs) h =
    either (in_either (f y) (flat_map f xs) h) (λ k. (y, here refl, k))
    (λ k. let m = flat_in f xs k in (m.0, there m.1, m.2))

if_kept : {A : Type 0} (t : Bool) (x : A) → t ≡ true → IsIn x (cond t (x ∷ []) [])
if_kept true x h = here refl
if_kept false x h = search rules

of_if : {A : Type 0} {a : A} (t : Bool) (x : A) → IsIn a (cond t (x ∷ []) []) → (x ≡ a) × (t ≡ true)
of_if true x (here e) = (e, refl)
of_if true x (there h) = elim h [ ]
of_if false x h = elim h [ ]

pub in_kept : {A : Type 0} (test : A → Bool) {x : A} (xs : List A) → IsIn x xs → test x ≡ true → IsIn x (kept test xs)
in_kept test {x = x} xs h t = in_flat (λ y. cond (test y) (y ∷ []) []) xs h (if_kept (test x) x t)

pub kept_in : {A : Type 0} (test : A → Bool) {x : A} (xs : List A) → IsIn x (kept test xs) → IsIn x xs × (test x ≡ true)
kept_in test {x = x} xs h =
    let m = flat_in (λ y. cond (test y) (y ∷ []) []) xs h in
    let k = of_if (test m.0) m.0 m.2 in
    (subst (λ z. IsIn z xs) k.0 m.1, ap test (sym k.0) ∙ k.1)

-- ---- tests of all and of some

pub all_of : {A : Type 0} (test : A → Bool) {x : A} (xs : List A) → list_all test xs ≡ true → IsIn x xs → test x ≡ true
all_of test [] h m = elim m [ ]
all_of test (y ∷ xs) h (here e) = ap test (sym e) ∙ first_true (test y) (list_all test xs) h
all_of test (y ∷ xs) h (there m) = all_of test xs (second_true (test y) (list_all test xs) h) m

pub all_are : {A : Type 0} (test : A → Bool) (xs : List A) → ((x : A) → IsIn x xs → test x ≡ true)
    → list_all test xs ≡ true
all_are test [] h = refl
all_are test (y ∷ xs) h = both_true (h y (here refl)) (all_are test xs (λ x m. h x (there m)))

pub none_of : {A : Type 0} (test : A → Bool) {x : A} (xs : List A) → list_any test xs ≡ false → IsIn x xs
    → test x ≡ false
none_of test [] h m = elim m [ ]
none_of test (y ∷ xs) h (here e) = ap test (sym e) ∙ first_false (test y) (list_any test xs) h
none_of test (y ∷ xs) h (there m) = none_of test xs (second_false (test y) (list_any test xs) h) m

pub none_are : {A : Type 0} (test : A → Bool) (xs : List A) → ((x : A) → IsIn x xs → test x ≡ false)
    → list_any test xs ≡ false
none_are test [] h = refl
none_are test (y ∷ xs) h = both_false (h y (here refl)) (none_are test xs (λ x m. h x (there m)))

pub some_in : {A : Type 0} (test : A → Bool) (xs : List A) → list_any test xs ≡ true → (x : A) × IsIn x xs
    × (test x ≡ true)
some_in test [] h = search rules
some_in test (y ∷ xs) h =
    case (test y) (λ t. (y, here refl, t))
    (λ f. let m = some_in test xs (ap (λ b. b || list_any test xs) (sym f) ∙ h) in (m.0, there m.1, m.2))

pub in_some : {A : Type 0} (test : A → Bool) {x : A} (xs : List A) → IsIn x xs → test x ≡ true → list_any test xs ≡ true
in_some test xs m t = case (list_any test xs) (λ h. h) (λ h. absurd (clash t (none_of test xs h m)))
