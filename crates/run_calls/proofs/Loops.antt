-- One round of a loop over items, sizes or places.
use Rattle.std.proofs.Common.{◌≡◌, ℕ, zero, suc, ◌+◌, ◌-◌, ◌<◌, ◌≤◌, Bool, true, false, List, [], ◌∷◌, length, drop, take, sum, replicate, slice_index_or, refl, sym, ap, ◌∙◌, arith, length-append}
use Rattle.std.proofs.lemmas.List.{length-replicate}
use Rattle.std.proofs.lemmas.List.Sums.{sum_by-cons}
use Rattle.formula.specs.declared.value.Cell.{Cell}
use Rattle.formula.specs.declared.value.Cell.TheVariants.{Undefined}
use Rattle.fort_model.specs.Storage.{contents}
use Rattle.run_rooms.specs.Roomy.{behind}
use Rattle.run_state.specs.Deeds.{no_item, first_in, size_in, newest_in}
use Rattle.run_state.specs.declared.machine.Item.{Item}
use Rattle.run_state.specs.declared.machine.Item.TheVariants.{Cells, Fresh}
use Rattle.run_state.specs.declared.machine.State.{State}
use Rattle.run_calls.specs.Calls.{all_cells, HasRoomFor, HasRoomToGive, new_size, held_in, handed, given_cells}

abbrev no_items : List Item
no_items = []

-- the newest so many, from the oldest of them on
newest_end : (n : ℕ) (items acc : List Item) → drop n (newest_in n items acc) ≡ acc
newest_end zero items acc = refl
newest_end (suc n) items acc = later n (newest_in n (behind items) (first_in items ∷ acc)) (first_in items) acc (newest_end n (behind items) (first_in items ∷ acc))
  where
    later : (n : ℕ) (xs : List Item) (x : Item) (acc : List Item) → drop n xs ≡ x ∷ acc → drop (suc n) xs ≡ acc
    later zero (y ∷ xs) x acc e = ap behind e
    later zero [] x acc e = absurd (cc)
    later (suc n) (y ∷ xs) x acc e = later n xs x acc e
    later (suc n) [] x acc e = absurd (cc)

deeper : (items : List Item) (k : ℕ) → slice_index_or (behind items) k no_item ≡ slice_index_or items (suc k) no_item
deeper [] k = refl
deeper (x ∷ items) k = refl

top_first : (items : List Item) → first_in items ≡ slice_index_or items 0 no_item
top_first [] = refl
top_first (x ∷ items) = refl

later_still : {X : Type 0} (i : ℕ) (xs ys : List X) (x : X) → drop i xs ≡ x ∷ ys → drop (suc i) xs ≡ ys
later_still zero (y ∷ xs) ys x e = ap behind e
later_still zero [] ys x e = absurd (cc)
later_still (suc i) (y ∷ xs) ys x e = later_still i xs ys x e
later_still (suc i) [] ys x e = absurd (cc)

newest_from : (n : ℕ) (items acc : List Item) (i k : ℕ) → i + suc k ≡ n → drop i (newest_in n items acc) ≡ slice_index_or items k no_item ∷ drop (suc i) (newest_in n items acc)
newest_from zero items acc i k e = absurd (omega arith)
newest_from (suc n) items acc i zero e =
    let last : i ≡ n = omega arith in
    let here : drop i (newest_in n (behind items) (first_in items ∷ acc)) ≡ first_in items ∷ acc = ap (λ j. drop j (newest_in n (behind items) (first_in items ∷ acc))) last ∙ newest_end n (behind items) (first_in items ∷ acc) in
    here ∙ ap (λ x. x ∷ acc) (top_first items) ∙ ap (λ xs. slice_index_or items 0 no_item ∷ xs) (sym (later_still i (newest_in n (behind items) (first_in items ∷ acc)) acc (first_in items) here))
newest_from (suc n) items acc i (suc k) e =
    newest_from n (behind items) (first_in items ∷ acc) i k (omega arith) ∙ ap (λ x. x ∷ drop (suc i) (newest_in n (behind items) (first_in items ∷ acc))) (deeper items k)

-- the item so many below the newest is the next one
pub next_item : (n i : ℕ) (items : List Item) → i < n → drop i (newest_in n items []) ≡ slice_index_or items (n - 1 - i) no_item ∷ drop (suc i) (newest_in n items [])
next_item n i items h = newest_from n items [] i (n - 1 - i) (let whole : i + suc (n - 1 - i) ≡ n = omega arith in whole)

-- none is left
pub newest_done : (i n : ℕ) (items : List Item) → n ≤ i → drop i (newest_in n items []) ≡ []
newest_done i n items h = none i n (newest_in n items []) (newest_end n items []) h
  where
    none : (i n : ℕ) (xs : List Item) → drop n xs ≡ [] → n ≤ i → drop i xs ≡ []
    none i zero xs e h = ap (drop i) e ∙ nothing i
      where
        nothing : (i : ℕ) → drop i (no_items) ≡ []
        nothing zero = refl
        nothing (suc i) = refl
    none zero (suc n) xs e h = absurd (omega arith)
    none (suc i) (suc n) [] e h = refl
    none (suc i) (suc n) (x ∷ xs) e h = none i n xs e (omega arith)

-- ---- room

no_more : (copy : Bool) (x : Item) → new_size copy x ≤ size_in x
no_more copy (Fresh c) = omega arith
no_more true (Cells e) = omega arith
no_more false (Cells e) = omega arith

long : (st : List Cell) (i n : ℕ) → length (contents st i n) ≡ n
long st i zero = refl
long st i (suc n) = ap suc (long st (suc i) n)

pub held_long : (copy : Bool) (x : Item) (base : ℕ) (cs : List Cell) → length (held_in copy x base cs) ≡ new_size copy x
held_long copy (Fresh c) base cs = refl
held_long true (Cells e) base cs = long (take base cs) e.first e.size
held_long false (Cells e) base cs = refl

pub room_now : (copy : Bool) (x : Item) (xs : List Item) (m : State) → HasRoomFor (x ∷ xs) m → (length m.extents.items < m.extents.room) × (length m.cells.items + new_size copy x ≤ m.cells.room)
room_now copy x xs m room =
    let e : length m.extents.items + suc (length xs) ≤ m.extents.room = room.extents in
    let c : length m.cells.items + (size_in x + all_cells xs) ≤ m.cells.room = room.cells in
    let s : new_size copy x ≤ size_in x = no_more copy x in
    (omega arith, omega arith)

pub room_then : (copy : Bool) (x : Item) (base : ℕ) (xs : List Item) (m : State) → HasRoomFor (x ∷ xs) m → HasRoomFor xs (handed copy x base m)
room_then copy x base xs m room =
    let e : length m.extents.items + suc (length xs) ≤ m.extents.room = room.extents in
    let c : length m.cells.items + (size_in x + all_cells xs) ≤ m.cells.room = room.cells in
    let s : new_size copy x ≤ size_in x = no_more copy x in
    let h : length (held_in copy x base m.cells.items) ≡ new_size copy x = held_long copy x base m.cells.items in
    let l : length (handed copy x base m).cells.items ≡ length m.cells.items + length (held_in copy x base m.cells.items) = length-append m.cells.items (held_in copy x base m.cells.items) in
    let k : length (handed copy x base m).extents.items ≡ length m.extents.items + 1 = length-append m.extents.items _ in
    record { extents = omega arith; cells = omega arith }

pub give_now : (size : ℕ) (sizes : List ℕ) (m : State) → HasRoomToGive (size ∷ sizes) m → (length m.extents.items < m.extents.room) × (length m.cells.items + size ≤ m.cells.room)
give_now size sizes m room =
    let e : length m.extents.items + suc (length sizes) ≤ m.extents.room = room.extents in
    let c : length m.cells.items + sum (size ∷ sizes) ≤ m.cells.room = room.cells in
    let s : sum (size ∷ sizes) ≡ size + sum sizes = sum_by-cons (λ x. x) size sizes in
    (omega arith, omega arith)

pub give_then : (size : ℕ) (sizes : List ℕ) (m : State) → HasRoomToGive (size ∷ sizes) m → HasRoomToGive sizes (given_cells size m)
give_then size sizes m room =
    let e : length m.extents.items + suc (length sizes) ≤ m.extents.room = room.extents in
    let c : length m.cells.items + sum (size ∷ sizes) ≤ m.cells.room = room.cells in
    let s : sum (size ∷ sizes) ≡ size + sum sizes = sum_by-cons (λ x. x) size sizes in
    let new : List Cell = replicate size Undefined in
    let r : length new ≡ size = length-replicate size Undefined in
    let l : length (given_cells size m).cells.items ≡ length m.cells.items + length new = length-append m.cells.items new in
    let k : length (given_cells size m).extents.items ≡ length m.extents.items + 1 = length-append m.extents.items _ in
    record { extents = omega arith; cells = omega arith }
