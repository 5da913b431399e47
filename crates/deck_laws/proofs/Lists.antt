-- Lists that are joined, and lists made of lists.
use Rattle.std.proofs.Common.{◌≡◌, Bool, true, List, [], ◌∷◌, ◌++◌, map, flat_map, refl, sym, ap, ap₂, ◌∙◌, append_assoc}
use Rattle.std.specs.Prelude.{◌&&◌}
use Rattle.std.specs.List.{list_all}
use Rattle.deck_laws.proofs.Tests.{first_true, second_true, both_true, and_same, and_assoc}
use Rattle.deck_laws.proofs.Members.{IsIn, here, there}

pub map_joined : {A B : Type 0} (f : A → B) (xs ys : List A) → map f (xs ++ ys) ≡ map f xs ++ map f ys
map_joined f [] ys = refl
map_joined f (x ∷ xs) ys = ap (λ zs. f x ∷ zs) (map_joined f xs ys)

pub map_flat : {A B C : Type 0} (f : B → C) (g : A → List B) (xs : List A)
    → map f (flat_map g xs) ≡ flat_map (λ x. map f (g x)) xs
map_flat f g [] = refl
map_flat f g (x ∷ xs) = map_joined f (g x) (flat_map g xs) ∙ ap (λ zs. map f (g x) ++ zs) (map_flat f g xs)

pub map_same : {A B : Type 0} (f g : A → B) (xs : List A) → ((x : A) → IsIn x xs → f x ≡ g x) → map f xs ≡ map g xs
map_same f g [] h = refl
map_same f g (x ∷ xs) h = ap₂ (λ y ys. y ∷ ys) (h x (here refl)) (map_same f g xs (λ y m. h y (there m)))

pub flat_joined : {A B : Type 0} (f : A → List B) (xs ys : List A)
    → flat_map f (xs ++ ys) ≡ flat_map f xs ++ flat_map f ys
flat_joined f [] ys = refl
flat_joined f (x ∷ xs) ys =
    ap (λ zs. f x ++ zs) (flat_joined f xs ys) ∙ sym (append_assoc (f x) (flat_map f xs) (flat_map f ys))

pub flat_flat : {A B C : Type 0} (f : B → List C) (g : A → List B) (xs : List A)
    → flat_map f (flat_map g xs) ≡ flat_map (λ x. flat_map f (g x)) xs
flat_flat f g [] = refl
flat_flat f g (x ∷ xs) = flat_joined f (g x) (flat_map g xs) ∙ ap (λ zs. flat_map f (g x) ++ zs) (flat_flat f g xs)

pub flat_map_of : {A B C : Type 0} (f : B → List C) (g : A → B) (xs : List A)
    → flat_map f (map g xs) ≡ flat_map (λ x. f (g x)) xs
flat_map_of f g [] = refl
flat_map_of f g (x ∷ xs) = ap (λ zs. f (g x) ++ zs) (flat_map_of f g xs)

pub flat_same : {A B : Type 0} (f g : A → List B) (xs : List A) → ((x : A) → f x ≡ g x) → flat_map f xs ≡ flat_map g xs
flat_same f g [] h = refl
flat_same f g (x ∷ xs) h = λ i. h x i ++ flat_same f g xs h i

-- ---- tests of all

all_split : {A : Type 0} (p : A → Bool) (xs ys : List A) → list_all p (xs ++ ys) ≡ (list_all p xs && list_all p ys)
all_split p [] ys = refl
all_split p (x ∷ xs) ys = ap (λ b. p x && b) (all_split p xs ys) ∙ and_assoc (p x) (list_all p xs) (list_all p ys)

pub all_joined : {A : Type 0} (p : A → Bool) (xs ys : List A) → list_all p xs ≡ true → list_all p ys ≡ true
    → list_all p (xs ++ ys) ≡ true
all_joined p xs ys h k = all_split p xs ys ∙ both_true h k

pub all_flat : {A B : Type 0} (p : B → Bool) (f : A → List B) (xs : List A) → list_all (λ x. list_all p (f x)) xs ≡ true
    → list_all p (flat_map f xs) ≡ true
all_flat p f [] h = refl
all_flat p f (x ∷ xs) h =
    let first = first_true (list_all p (f x)) (list_all (λ y. list_all p (f y)) xs) h in
    let others = second_true (list_all p (f x)) (list_all (λ y. list_all p (f y)) xs) h in
    all_joined p (f x) (flat_map f xs) first (all_flat p f xs others)

pub all_same : {A : Type 0} (p q : A → Bool) (xs : List A) → ((x : A) → p x ≡ q x) → list_all p xs ≡ list_all q xs
all_same p q [] h = refl
all_same p q (x ∷ xs) h = and_same (h x) (all_same p q xs h)

pub joined_same : {A : Type 0} (p q : A → Bool) (xs ys : List A) → list_all p xs ≡ list_all q xs
    → list_all p ys ≡ list_all q ys
    → list_all p (xs ++ ys) ≡ list_all q (xs ++ ys)
joined_same p q xs ys h k = all_split p xs ys ∙ (and_same h k ∙ sym (all_split q xs ys))
