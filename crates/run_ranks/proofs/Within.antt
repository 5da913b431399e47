-- No extent and no item has more cells than so many.
use Rattle.std.proofs.Common.{◌≡◌, ℕ, zero, suc, ◌+◌, ◌*◌, ◌-◌, ◌≤◌, Bool, true, false, List, [], ◌∷◌, ◌++◌, length, map, drop, take, slice_index_or, refl, ap, arith, length-append}
use Rattle.fort_model.specs.Storage.{Storage, contents, side_by_side}
use Rattle.run_rooms.specs.Roomy.{behind, oldest}
use Rattle.run_state.specs.Near.{far, shortened}
use Rattle.run_state.specs.Deeds.{no_cells, size_in, first_in, newest_in, under_in}
use Rattle.run_state.specs.Obeyed.{AreWithin, ExtentsWithin}
use Rattle.run_state.specs.declared.machine.Extent.{Extent}
use Rattle.run_state.specs.declared.machine.Item.{Item}
use Rattle.run_state.specs.declared.machine.Item.TheVariants.{Cells, Fresh}
use Rattle.run_state.specs.declared.machine.State.{State}
use Rattle.run_calls.specs.Calls.{all_cells, seat, new_size, shared_one, shared_all}
use Rattle.run_calls.proofs.Closed.{laid, seats_in, held_from, news_in}
use Rattle.run_ranks.specs.Needs.{SizesWithin}

-- ---- products

split : (a b m : ℕ) → (a + b) * m ≡ a * m + b * m
split a b m = grind arith

pub more_times : (a b m : ℕ) → a ≤ b → a * m ≤ b * m
more_times a b m h =
    let e : a + (b - a) ≡ b = omega arith in
    let s : (a + (b - a)) * m ≡ a * m + (b - a) * m = split a (b - a) m in
    let t : (a + (b - a)) * m ≡ b * m = ap (λ k. k * m) e in
    omega arith

pub sum_times : (a b c m : ℕ) → a + b ≤ c → a * m + b * m ≤ c * m
sum_times a b c m h = let s : (a + b) * m ≡ a * m + b * m = split a b m in let t : (a + b) * m ≤ c * m = more_times (a + b) c m h in omega arith

-- ---- lengths

pub take_short : {X : Type 0} (n : ℕ) (xs : List X) → length (take n xs) ≤ n
take_short zero xs = omega arith
take_short (suc n) [] = omega arith
take_short (suc n) (x ∷ xs) = let h : length (take n xs) ≤ n = take_short n xs in omega arith

drop_short : {X : Type 0} (n : ℕ) (xs : List X) → length (drop n xs) ≤ length xs - n
drop_short zero xs = omega arith
drop_short (suc n) [] = omega arith
drop_short (suc n) (x ∷ xs) = let h : length (drop n xs) ≤ length xs - n = drop_short n xs in omega arith

pub oldest_short : (n : ℕ) (items : List Item) → length (oldest n items) ≤ n
oldest_short n items = let h : length (drop (length items - n) items) ≤ length items - (length items - n) = drop_short (length items - n) items in omega arith

behind_less : (items : List Item) → length (behind items) ≤ length items
behind_less [] = omega arith
behind_less (x ∷ items) = omega arith

pub under_less : (n : ℕ) (items : List Item) → length (under_in n items) ≤ length items
under_less zero items = omega arith
under_less (suc n) items =
    let h : length (under_in n (behind items)) ≤ length (behind items) = under_less n (behind items) in
    let b : length (behind items) ≤ length items = behind_less items in
    omega arith

pub newest_long : (n : ℕ) (items acc : List Item) → length (newest_in n items acc) ≡ n + length acc
newest_long zero items acc = omega arith
newest_long (suc n) items acc = let h : length (newest_in n (behind items) (first_in items ∷ acc)) ≡ n + suc (length acc) = newest_long n (behind items) (first_in items ∷ acc) in omega arith

pub seats_long : (copies : ℕ → Bool) (i : ℕ) (xs : List Item) (next : ℕ) → length (seats_in copies i xs next) ≡ length xs
seats_long copies i [] next = refl
seats_long copies i (x ∷ xs) next = ap suc (seats_long copies (suc i) xs (next + new_size (copies i) x))

contents_long : (st : Storage) (i n : ℕ) → length (contents st i n) ≡ n
contents_long st i zero = refl
contents_long st i (suc n) = ap suc (contents_long st (suc i) n)

held_less : (copy : Bool) (x : Item) (st : Storage) → length (held_from copy x st) ≤ size_in x
held_less copy (Fresh c) st = omega arith
held_less true (Cells e) st = let h : length (contents st e.first e.size) ≡ e.size = contents_long st e.first e.size in omega arith
held_less false (Cells e) st = omega arith

pub news_less : (copies : ℕ → Bool) (i : ℕ) (xs : List Item) (st : Storage) → length (news_in copies i xs st) ≤ all_cells xs
news_less copies i [] st = omega arith
news_less copies i (x ∷ xs) st =
    let h : length (news_in copies (suc i) xs st) ≤ all_cells xs = news_less copies (suc i) xs st in
    let s : length (held_from (copies i) x st) ≤ size_in x = held_less (copies i) x st in
    let l : length (held_from (copies i) x st ++ news_in copies (suc i) xs st) ≡ length (held_from (copies i) x st) + length (news_in copies (suc i) xs st) =
    length-append (held_from (copies i) x st) (news_in copies (suc i) xs st) in
    omega arith

-- ---- extents

module _ (most : ℕ) where
  pub extents_more : (es new : List Extent) → ExtentsWithin most es → ExtentsWithin most new → ExtentsWithin most (es ++ new)
  extents_more [] new a b = b
  extents_more (e ∷ es) new a b = (a.0, extents_more es new a.1 b)

  pub extents_taken : (n : ℕ) (es : List Extent) → ExtentsWithin most es → ExtentsWithin most (take n es)
  extents_taken zero es a = tt
  extents_taken (suc n) [] a = tt
  extents_taken (suc n) (e ∷ es) a = (a.0, extents_taken n es a.1)

  extent_found : (es : List Extent) (j : ℕ) → ExtentsWithin most es → (slice_index_or es j no_cells).size ≤ most
  extent_found [] zero a = omega arith
  extent_found [] (suc j) a = omega arith
  extent_found (e ∷ es) zero a = a.0
  extent_found (e ∷ es) (suc j) a = extent_found es j a.1

  seat_within : (copy : Bool) (x : Item) (next : ℕ) → 1 ≤ most → size_in x ≤ most → (seat copy x next).size ≤ most
  seat_within copy (Fresh c) next o s = o
  seat_within true (Cells e) next o s = s
  seat_within false (Cells e) next o s = s

  pub seats_within : (copies : ℕ → Bool) (i : ℕ) (xs : List Item) (next : ℕ) → 1 ≤ most → AreWithin most xs → ExtentsWithin most (seats_in copies i xs next)
  seats_within copies i [] next o a = tt
  seats_within copies i (x ∷ xs) next o a = (seat_within (copies i) x (far next) o a.0, seats_within copies (suc i) xs (next + new_size (copies i) x) o a.1)

  pub sides_within : (sizes : List ℕ) (next : ℕ) → SizesWithin most sizes → ExtentsWithin most (map shortened (side_by_side sizes next))
  sides_within [] next a = tt
  sides_within (size ∷ sizes) next a = (a.0, sides_within sizes (next + size) a.1)

  -- COMMON entities that are named add extents, and nothing else
  pub record SharesAlone (js : List ℕ) (m : State) : Type 0 where
    pub extents : List Extent
    pub same : shared_all js m ≡ laid extents m.cells.items m
    pub counted : length extents ≡ length m.extents.items + length js
    pub within : ExtentsWithin most extents

  pub shares_alone : (js : List ℕ) (m : State) → ExtentsWithin most m.extents.items → SharesAlone js m
  shares_alone [] m a = record { extents = m.extents.items; same = refl; counted = omega arith; within = a }
  shares_alone (j ∷ js) m a =
      let e : Extent = slice_index_or m.extents.items j no_cells in
      let r : SharesAlone js (shared_one j m) = shares_alone js (shared_one j m) (extents_more m.extents.items (e ∷ []) a (extent_found m.extents.items j a, tt)) in
      let l : length (m.extents.items ++ e ∷ []) ≡ length m.extents.items + 1 = length-append m.extents.items (e ∷ []) in
      let k : length r.extents ≡ length (m.extents.items ++ e ∷ []) + length js = r.counted in
      record { extents = r.extents; same = r.same; counted = omega arith; within = r.within }

  -- ---- items

  first_within : (items : List Item) → 1 ≤ most → AreWithin most items → size_in (first_in items) ≤ most
  first_within [] o a = o
  first_within (x ∷ items) o a = a.0

  behind_within : (items : List Item) → AreWithin most items → AreWithin most (behind items)
  behind_within [] a = a
  behind_within (x ∷ items) a = a.1

  pub newest_within : (n : ℕ) (items acc : List Item) → 1 ≤ most → AreWithin most items → AreWithin most acc → AreWithin most (newest_in n items acc)
  newest_within zero items acc o a b = b
  newest_within (suc n) items acc o a b = newest_within n (behind items) (first_in items ∷ acc) o (behind_within items a) (first_within items o a, b)

  pub under_within : (n : ℕ) (items : List Item) → AreWithin most items → AreWithin most (under_in n items)
  under_within zero items a = a
  under_within (suc n) items a = under_within n (behind items) (behind_within items a)

  dropped_within : (n : ℕ) (items : List Item) → AreWithin most items → AreWithin most (drop n items)
  dropped_within zero items a = a
  dropped_within (suc n) [] a = a
  dropped_within (suc n) (x ∷ items) a = dropped_within n items a.1

  pub oldest_within : (n : ℕ) (items : List Item) → AreWithin most items → AreWithin most (oldest n items)
  oldest_within n items a = dropped_within (length items - n) items a

  pub cells_within : (xs : List Item) → AreWithin most xs → all_cells xs ≤ length xs * most
  cells_within [] a = omega arith
  cells_within (x ∷ xs) a =
      let h : all_cells xs ≤ length xs * most = cells_within xs a.1 in
      let s : size_in x ≤ most = a.0 in
      let t : (1 + length xs) * most ≡ 1 * most + length xs * most = split 1 (length xs) most in
      omega arith
