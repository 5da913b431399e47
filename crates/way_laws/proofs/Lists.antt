-- Lists of all things of a kind, in the order of their numbers.
use Rattle.std.proofs.Common.{◌≡◌, ◌⊎◌, ℕ, List, [], ◌∷◌, ◌++◌, map, Some, ap, subst, inl, inr}
use Rattle.fort_model.specs.Lists.{IsAmong}
use Rattle.note_laws.proofs.Small.{none_among, among_append}
use Rattle.path_laws.proofs.Pairs.{Below, Pairs, pairs_append, pairs_map, among_front, among_back, among_map, map_among, only_among}

-- a list holds just the things of a kind, in order
pub record Lists {X : Type 0} (P : X → Type 0) (key : X → List ℕ) (list : List X) : Type 0 where
  pub sound : (x : X) → IsAmong x list → P x
  pub whole : (x : X) → P x → IsAmong x list
  pub apart : Pairs (λ x y. Below (key x) (key y)) list

-- no things
pub none_in : {X : Type 0} (P : X → Type 0) (key : X → List ℕ) → ((x : X) → P x → ⊥) → Lists P key []
none_in P key h = record { sound = λ x m. none_among m; whole = λ x p. absurd (h x p); apart = tt }

-- one thing
pub one_in : {X : Type 0} (P : X → Type 0) (key : X → List ℕ) (a : X) → P a → ((x : X) → P x → a ≡ x) → Lists P key (a ∷ [])
one_in P key a p h = record {
  sound = λ x m. subst P (only_among a x m) p;
  whole = λ x q. (0, ap Some (h x q));
  apart = (λ y m. none_among m, tt);
}

-- the same things, told in another way
pub retold_in : {X : Type 0} (P Q : X → Type 0) (key : X → List ℕ) (xs : List X) → ((x : X) → P x → Q x) → ((x : X) → Q x → P x) → Lists P key xs → Lists Q key xs
retold_in P Q key xs f g l = record { sound = λ x m. f x (l.sound x m); whole = λ x q. l.whole x (g x q); apart = l.apart }

-- things of two kinds, all of the one before all of the other
pub both_in : {X : Type 0} (P Q S : X → Type 0) (key : X → List ℕ) (xs ys : List X) → Lists P key xs → Lists Q key ys → ((x y : X) → P x → Q y → Below (key x) (key y))
    → ((x : X) → P x → S x) → ((x : X) → Q x → S x) → ((x : X) → S x → P x ⊎ Q x) → Lists S key (xs ++ ys)
both_in {X = X} P Q S key xs ys l m order f g split = record {
  sound = λ x a. sound x (among_append x xs ys a);
  whole = λ x s. whole x (split x s);
  apart = pairs_append (λ x y. Below (key x) (key y)) xs ys l.apart m.apart (λ x y a b. order x y (l.sound x a) (m.sound y b));
}
  where
    sound : (x : X) → IsAmong x xs ⊎ IsAmong x ys → S x
    sound x (inl a) = f x (l.sound x a)
    sound x (inr a) = g x (m.sound x a)

    whole : (x : X) → P x ⊎ Q x → IsAmong x (xs ++ ys)
    whole x (inl p) = among_front x xs ys (l.whole x p)
    whole x (inr q) = among_back x xs ys (m.whole x q)

-- what a function makes of things
pub made_in : {X Y : Type 0} (P : X → Type 0) (Q : Y → Type 0) (key : X → List ℕ) (other : Y → List ℕ) (f : X → Y) (xs : List X) → Lists P key xs
    → ((x y : X) → Below (key x) (key y) → Below (other (f x)) (other (f y))) → ((x : X) → P x → Q (f x)) → ((y : Y) → Q y → (x : X) × P x × (f x ≡ y)) → Lists Q other (map f xs)
made_in P Q key other f xs l order g back = record {
  sound = λ y m. let r = map_among f xs y m in subst Q r.2 (g r.0 (l.sound r.0 r.1));
  whole = λ y q. let r = back y q in subst (λ z. IsAmong z (map f xs)) r.2 (among_map f xs r.0 (l.whole r.0 r.1));
  apart = pairs_map (λ x y. Below (key x) (key y)) (λ x y. Below (other x) (other y)) f xs order l.apart;
}

-- the same list
pub in_same : {X : Type 0} (P : X → Type 0) (key : X → List ℕ) (xs ys : List X) → xs ≡ ys → Lists P key xs → Lists P key ys
in_same P key xs ys e l = subst (Lists P key) e l
