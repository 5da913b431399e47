-- Subscripts lie on the stack, the last one on top.
use Rattle.std.proofs.Common.{◌≡◌, ℕ, zero, suc, ◌+◌, ◌-◌, ◌<◌, ◌≤◌, List, [], ◌∷◌, length, map, take, drop, Option, Some, None, slice_get, refl, sym, ap, ◌∙◌, arith}
use Rattle.std.specs.Prelude.{ℤ}
use Rattle.std.proofs.lemmas.List.{drop_more, drop_all}
use Rattle.std.proofs.lemmas.Option.{slice_get_within, get_or_from_slice_get}
use Rattle.fort_model.specs.Cells.{num}
use Rattle.fort_model.specs.Evaluate.{numbers}
use Rattle.run_rooms.specs.Roomy.{behind, oldest}
use Rattle.run_shapes.specs.declared.slots.Amount.{Amount}
use Rattle.run_shapes.specs.declared.slots.Slots.{Slots}
use Rattle.run_state.specs.Deeds.{values_in, first_in, newest_in, under_in}
use Rattle.run_state.specs.declared.machine.Item.{Item}
use Rattle.run_state.specs.declared.machine.State.{State}
use Rattle.run_state.proofs.Items.{under_oldest}
use Rattle.run_elements.specs.Elements.{value_below}
use Rattle.run_places.specs.Arrays.{place_to, on_from, next_to, dim_in, dims_in, subscripts_of}
use Rattle.run_places.specs.declared.places.Place.{Place}

-- what remains of the oldest is what is below the newest
pub kept : (items : List Item) (depth : ℕ) → oldest (length items - depth) items ≡ under_in depth items
kept items depth = under_oldest depth items

-- the deepest of the newest, and the others
deepest : (n : ℕ) (items acc : List Item) → newest_in (suc n) items acc ≡ first_in (under_in n items) ∷ newest_in n items acc
deepest zero items acc = refl
deepest (suc n) items acc = deepest n (behind items) (first_in items ∷ acc)

pub first_subscript : (m : State) (n : ℕ) → subscripts_of m (suc n) ≡ num (value_below n m) ∷ subscripts_of m n
first_subscript m n = ap (λ xs. numbers (values_in xs)) (deepest n m.values.items [])

-- a dimension, and the others
pub first_dim : (m : State) (slots : Slots) (first rank : ℕ) (a : Amount) → slice_get slots.sizes first ≡ Some a
    → dims_in m slots first (suc rank) ≡ dim_in m a ∷ dims_in m slots (first + 1) rank
first_dim m slots first rank a e =
    ap (λ (bs : List Amount). map (dim_in m) (take (suc rank) bs))
    (drop_more slots.sizes first a (slice_get_within slots.sizes first a e) ∙ ap (λ (b : Amount). b ∷ drop (first + 1) slots.sizes) (get_or_from_slice_get slots.sizes first a a e))

-- ---- places

no_dims : (ss : List ℤ) (p : Place) → place_to ss [] p ≡ Some p
no_dims [] p = refl
no_dims (s ∷ ss) p = refl

-- no subscript is left
pub all_subscripts : (m : State) (slots : Slots) (left first rank : ℕ) (p : Place) → left ≡ 0 → place_to (subscripts_of m left) (dims_in m slots first rank) p ≡ Some p
all_subscripts m slots left first rank p e = ap (λ k. place_to (subscripts_of m k) (dims_in m slots first rank) p) e

-- no dimension is left
pub all_dims : (m : State) (slots : Slots) (left first rank : ℕ) (p : Place) → rank ≡ 0 → place_to (subscripts_of m left) (dims_in m slots first rank) p ≡ Some p
all_dims m slots left first rank p e = ap (λ k. place_to (subscripts_of m left) (dims_in m slots first k) p) e ∙ no_dims (subscripts_of m left) p

abbrev no_amounts : List Amount
no_amounts = []

past_all : {X : Type 0} (xs : List X) (k : ℕ) → slice_get xs k ≡ None → length xs ≤ k
past_all [] k e = omega arith
past_all (x ∷ xs) zero e = absurd (cc)
past_all (x ∷ xs) (suc k) e = let h : length xs ≤ k = past_all xs k e in omega arith

none_taken : (k : ℕ) → take k no_amounts ≡ []
none_taken zero = refl
none_taken (suc k) = refl

pub no_more_dims : (m : State) (slots : Slots) (left first rank : ℕ) (p : Place) → slice_get slots.sizes first ≡ None → place_to (subscripts_of m left) (dims_in m slots first rank) p ≡ Some p
no_more_dims m slots left first rank p e =
    ap (λ (bs : List Amount). place_to (subscripts_of m left) (map (dim_in m) (take rank bs)) p) (drop_all first slots.sizes (past_all slots.sizes first e))
    ∙ ap (λ (bs : List Amount). place_to (subscripts_of m left) (map (dim_in m) bs) p) (none_taken rank)
    ∙ no_dims (subscripts_of m left) p

-- one more subscript
one_more : (m : State) (slots : Slots) (first k r : ℕ) (p : Place) (a : Amount) → slice_get slots.sizes first ≡ Some a
    → place_to (subscripts_of m (suc k)) (dims_in m slots first (suc r)) p
    ≡ on_from (next_to p (num (value_below k m)) (dim_in m a)) (place_to (subscripts_of m k) (dims_in m slots (first + 1) r))
one_more m slots first k r p a e =
    ap (λ ss. place_to ss (dims_in m slots first (suc r)) p) (first_subscript m k) ∙ ap (λ ds. place_to (num (value_below k m) ∷ subscripts_of m k) ds p) (first_dim m slots first r a e)

-- before the first
pub none_yet : (m : State) (slots : Slots) (count first rank : ℕ) (p : Place)
    → place_to (subscripts_of m (count - 0)) (dims_in m slots (first + 0) (rank - 0)) p ≡ place_to (subscripts_of m count) (dims_in m slots first rank) p
none_yet m slots count first rank p =
    ap (λ k. place_to (subscripts_of m k) (dims_in m slots (first + 0) (rank - 0)) p) (let same : count - 0 ≡ count = omega arith in same)
    ∙ ap (λ k. place_to (subscripts_of m count) (dims_in m slots k (rank - 0)) p) (let same : first + 0 ≡ first = omega arith in same)
    ∙ ap (λ k. place_to (subscripts_of m count) (dims_in m slots first k) p) (let same : rank - 0 ≡ rank = omega arith in same)

-- behind so many, by what the code has
pub next_at : (m : State) (slots : Slots) (count first rank at : ℕ) (p : Place) (a : Amount) (z : ℤ) (d : ℕ) (o : Option Place) → at < count → at < rank → slice_get slots.sizes (first + at) ≡ Some a
    → o ≡ next_to p z d → z ≡ num (value_below (count - 1 - at) m) → d ≡ dim_in m a
    → place_to (subscripts_of m (count - at)) (dims_in m slots (first + at) (rank - at)) p
    ≡ on_from o (place_to (subscripts_of m (count - (at + 1))) (dims_in m slots (first + (at + 1)) (rank - (at + 1))))
next_at m slots count first rank at p a z d o l r here n zs ds =
    let k = count - (at + 1) in
    let j = rank - (at + 1) in
    ap (λ i. place_to (subscripts_of m i) (dims_in m slots (first + at) (rank - at)) p) (let more : count - at ≡ suc (count - (at + 1)) = omega arith in more)
    ∙ ap (λ i. place_to (subscripts_of m (suc k)) (dims_in m slots (first + at) i) p) (let more : rank - at ≡ suc (rank - (at + 1)) = omega arith in more)
    ∙ one_more m slots (first + at) k j p a here
    ∙ ap (λ i. on_from (next_to p (num (value_below k m)) (dim_in m a)) (place_to (subscripts_of m k) (dims_in m slots i j))) (let more : first + at + 1 ≡ first + (at + 1) = omega arith in more)
    ∙ ap (λ i. on_from (next_to p (num (value_below i m)) (dim_in m a)) (place_to (subscripts_of m k) (dims_in m slots (first + (at + 1)) j)))
    (let same : count - (at + 1) ≡ count - 1 - at = omega arith in same)
    ∙ ap (λ y. on_from (next_to p y (dim_in m a)) (place_to (subscripts_of m k) (dims_in m slots (first + (at + 1)) j))) (sym zs)
    ∙ ap (λ y. on_from (next_to p z y) (place_to (subscripts_of m k) (dims_in m slots (first + (at + 1)) j))) (sym ds)
    ∙ ap (λ y. on_from y (place_to (subscripts_of m k) (dims_in m slots (first + (at + 1)) j))) (sym n)
