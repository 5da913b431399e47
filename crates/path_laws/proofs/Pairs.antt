-- Lists whose things stand in an order, and lists of all things of a kind.
use Rattle.std.proofs.Common.{◌≡◌, ◌⊎◌, ℕ, zero, suc, ◌<◌, List, [], ◌∷◌, ◌++◌, map, Some, refl, sym, ap, ◌∙◌, subst, inl, inr, append_assoc, append-nil}
use Rattle.std.specs.Cmp.Lexicographic.{slice_cmp}
use Rattle.std.specs.Cmp.{nat_cmp_is}
use Rattle.std.specs.List.{flat_map}
use Rattle.std.specs.Ordering.{nat_cmp, ordering_then}
use Rattle.std.specs.declared.cmp.Ordering.{Ordering}
use Rattle.std.specs.declared.cmp.Ordering.TheVariants.{Less, Equal}
use Rattle.fort_model.specs.Lists.{IsAmong}
use Rattle.note_laws.proofs.Small.{none_among, among_append, flat_among}

-- ---- numbers in order

-- whatever follows, the one list comes before the other
abbrev pub Below : List ℕ → List ℕ → Type 0
Below a b = (x y : List ℕ) → slice_cmp nat_cmp (a ++ x) (b ++ y) ≡ Less

same_first : (k : ℕ) (o : Ordering) → ordering_then (nat_cmp k k) o ≡ o
same_first k o = ap (λ (r : Ordering). ordering_then r o) (sym (nat_cmp_is k k Equal refl))

pub below_heads : (k m : ℕ) (a b : List ℕ) → k < m → Below (k ∷ a) (m ∷ b)
below_heads k m a b lt x y = ap (λ (r : Ordering). ordering_then r (slice_cmp nat_cmp (a ++ x) (b ++ y))) (sym (nat_cmp_is k m Less lt))

pub below_front : (c a b : List ℕ) → Below a b → Below (c ++ a) (c ++ b)
below_front [] a b h x y = h x y
below_front (k ∷ c) a b h x y = same_first k (slice_cmp nat_cmp ((c ++ a) ++ x) ((c ++ b) ++ y)) ∙ below_front c a b h x y

pub below_more : (a b c d : List ℕ) → Below a b → Below (a ++ c) (b ++ d)
below_more a b c d h x y =
    (λ z. slice_cmp nat_cmp (append_assoc a c x z) (append_assoc b d y z)) ∙ h (c ++ x) (d ++ y)

pub below_itself : (a b : List ℕ) → Below a b → slice_cmp nat_cmp a b ≡ Less
below_itself a b h = (λ z. slice_cmp nat_cmp (sym (append-nil a) z) (sym (append-nil b) z)) ∙ h [] []

-- ---- members

pub among_front : {A : Type 0} (a : A) (xs ys : List A) → IsAmong a xs → IsAmong a (xs ++ ys)
among_front a [] ys m = none_among m
among_front a (x ∷ xs) ys (zero, e) = (zero, e)
among_front a (x ∷ xs) ys (suc k, e) = let r = among_front a xs ys (k, e) in (suc r.0, r.1)

pub among_back : {A : Type 0} (a : A) (xs ys : List A) → IsAmong a ys → IsAmong a (xs ++ ys)
among_back a [] ys m = m
among_back a (x ∷ xs) ys m = let r = among_back a xs ys m in (suc r.0, r.1)

pub map_among : {A B : Type 0} (f : A → B) (xs : List A) (b : B) → IsAmong b (map f xs) → (a : A) × IsAmong a xs × (f a ≡ b)
map_among f [] b m = none_among m
map_among f (x ∷ xs) b (zero, e) = let same : f x ≡ b = cc in (x, (0, refl), same)
map_among f (x ∷ xs) b (suc k, e) = let r = map_among f xs b (k, e) in (r.0, (suc r.1.0, r.1.1), r.2)

pub among_map : {A B : Type 0} (f : A → B) (xs : List A) (a : A) → IsAmong a xs → IsAmong (f a) (map f xs)
among_map f [] a m = none_among m
among_map f (x ∷ xs) a (zero, e) = let same : x ≡ a = cc in (0, ap (λ z. Some (f z)) same)
among_map f (x ∷ xs) a (suc k, e) = let r = among_map f xs a (k, e) in (suc r.0, r.1)

pub among_flat : {A B : Type 0} (f : A → List B) (xs : List A) (a : A) (b : B) → IsAmong a xs → IsAmong b (f a) → IsAmong b (flat_map f xs)
among_flat f [] a b m n = none_among m
among_flat f (x ∷ xs) a b (zero, e) n =
    let same : x ≡ a = cc in among_front b (f x) (flat_map f xs) (subst (λ z. IsAmong b (f z)) (sym same) n)
among_flat f (x ∷ xs) a b (suc k, e) n = among_back b (f x) (flat_map f xs) (among_flat f xs a b (k, e) n)

pub only_among : {A : Type 0} (a b : A) → IsAmong b (a ∷ []) → a ≡ b
only_among a b (zero, e) = cc
only_among a b (suc k, e) = absurd (cc)

-- ---- pairs

-- each thing of a list stands so to all behind it
abbrev pub Pairs : {A : Type 0} → (A → A → Type 0) → List A → Type 0
Pairs R [] = Unit {0}
Pairs {A = A} R (x ∷ xs) = ((y : A) → IsAmong y xs → R x y) × Pairs R xs

pub pairs_append : {A : Type 0} (R : A → A → Type 0) (xs ys : List A) → Pairs R xs → Pairs R ys → ((x y : A) → IsAmong x xs → IsAmong y ys → R x y) → Pairs R (xs ++ ys)
pairs_append R [] ys h k c = k
pairs_append {A = A} R (x ∷ xs) ys h k c = (λ y m. at y (among_append y xs ys m), pairs_append R xs ys h.1 k (λ y z m n. c y z (suc m.0, m.1) n))
  where
    at : (y : A) → IsAmong y xs ⊎ IsAmong y ys → R x y
    at y (inl m) = h.0 y m
    at y (inr m) = c x y (0, refl) m

pub pairs_map : {A B : Type 0} (R : A → A → Type 0) (S : B → B → Type 0) (f : A → B) (xs : List A) → ((x y : A) → R x y → S (f x) (f y)) → Pairs R xs → Pairs S (map f xs)
pairs_map R S f [] g h = tt
pairs_map R S f (x ∷ xs) g h =
    (λ y m. let r = map_among f xs y m in subst (S (f x)) r.2 (g x r.0 (h.0 r.0 r.1)), pairs_map R S f xs g h.1)

pub pairs_flat : {A B : Type 0} (R : A → A → Type 0) (S : B → B → Type 0) (f : A → List B) (xs : List A) → ((x : A) → Pairs S (f x))
    → ((x y : A) (a b : B) → R x y → IsAmong a (f x) → IsAmong b (f y) → S a b) → Pairs R xs → Pairs S (flat_map f xs)
pairs_flat R S f [] own cross h = tt
pairs_flat R S f (x ∷ xs) own cross h =
    pairs_append S (f x) (flat_map f xs) (own x) (pairs_flat R S f xs own cross h.1)
    (λ a b m n. let r = flat_among f xs b n in cross x r.0 a b (h.0 r.0 r.1) m r.2)

-- ---- all things of a kind

-- a list of all things of a kind, in the order of their numbers
pub record Listing {X : Type 0} (P : X → Type 0) (key : X → List ℕ) : Type 0 where
  pub list : List X
  pub sound : (x : X) → IsAmong x list → P x
  pub whole : (x : X) → P x → IsAmong x list
  pub apart : Pairs (λ x y. Below (key x) (key y)) list

-- of no things
pub none_listed : {X : Type 0} (P : X → Type 0) (key : X → List ℕ) → ((x : X) → P x → ⊥) → Listing P key
none_listed P key h = record { list = []; sound = λ x m. none_among m; whole = λ x p. absurd (h x p); apart = tt }

-- of one thing
pub one_listed : {X : Type 0} (P : X → Type 0) (key : X → List ℕ) (a : X) → P a → ((x : X) → P x → a ≡ x) → Listing P key
one_listed P key a p h = record {
  list = a ∷ [];
  sound = λ x m. subst P (only_among a x m) p;
  whole = λ x q. (0, ap Some (h x q));
  apart = (λ y m. none_among m, tt);
}

-- of the same things, told in another way
pub retold : {X : Type 0} (P Q : X → Type 0) (key : X → List ℕ) → ((x : X) → P x → Q x) → ((x : X) → Q x → P x) → Listing P key → Listing Q key
retold P Q key f g l = record { list = l.list; sound = λ x m. f x (l.sound x m); whole = λ x q. l.whole x (g x q); apart = l.apart }

-- of things of two kinds, all of the one before all of the other
pub both_listed : {X : Type 0} (P Q S : X → Type 0) (key : X → List ℕ) (l : Listing P key) (m : Listing Q key) → ((x y : X) → P x → Q y → Below (key x) (key y))
    → ((x : X) → P x → S x) → ((x : X) → Q x → S x) → ((x : X) → S x → P x ⊎ Q x) → Listing S key
both_listed {X = X} P Q S key l m order f g split = record {
  list = l.list ++ m.list;
  sound = λ x a. sound x (among_append x l.list m.list a);
  whole = λ x s. whole x (split x s);
  apart = pairs_append (λ x y. Below (key x) (key y)) l.list m.list l.apart m.apart (λ x y a b. order x y (l.sound x a) (m.sound y b));
}
  where
    sound : (x : X) → IsAmong x l.list ⊎ IsAmong x m.list → S x
    sound x (inl a) = f x (l.sound x a)
    sound x (inr a) = g x (m.sound x a)

    whole : (x : X) → P x ⊎ Q x → IsAmong x (l.list ++ m.list)
    whole x (inl p) = among_front x l.list m.list (l.whole x p)
    whole x (inr q) = among_back x l.list m.list (m.whole x q)

-- of what a function makes of things
pub made_listed : {X Y : Type 0} (P : X → Type 0) (Q : Y → Type 0) (key : X → List ℕ) (other : Y → List ℕ) (f : X → Y) (l : Listing P key)
    → ((x y : X) → Below (key x) (key y) → Below (other (f x)) (other (f y))) → ((x : X) → P x → Q (f x)) → ((y : Y) → Q y → (x : X) × P x × (f x ≡ y)) → Listing Q other
made_listed P Q key other f l order g back = record {
  list = map f l.list;
  sound = λ y m. let r = map_among f l.list y m in subst Q r.2 (g r.0 (l.sound r.0 r.1));
  whole = λ y q. let r = back y q in subst (λ z. IsAmong z (map f l.list)) r.2 (among_map f l.list r.0 (l.whole r.0 r.1));
  apart = pairs_map (λ x y. Below (key x) (key y)) (λ x y. Below (other x) (other y)) f l.list order l.apart;
}
