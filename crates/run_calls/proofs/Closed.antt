-- What calls do to a state, all at once.
use Rattle.std.proofs.Common.{◌≡◌, ℕ, zero, suc, ◌+◌, ◌-◌, ◌<◌, ◌≤◌, Bool, true, false, List, [], ◌∷◌, ◌++◌, length, map, sum, take, replicate, slice_get, slice_index_or, refl, sym, ap, ◌∙◌, arith, length-append}
use Rattle.std.proofs.lemmas.List.{append_assoc, take-append-le, length-drop, length-replicate, get_or_append_left}
use Rattle.std.proofs.lemmas.List.Sums.{sum_by-cons}
use Rattle.formula.specs.declared.value.Cell.{Cell}
use Rattle.formula.specs.declared.value.Cell.TheVariants.{Undefined}
use Rattle.fort_model.specs.Storage.{Storage, contents, write, side_by_side}
use Rattle.run_state.specs.Near.{far, shortened}
use Rattle.run_rooms.specs.Roomy.{Roomy, oldest}
use Rattle.run_shapes.specs.declared.unit_code.Code.{Code}
use Rattle.run_shapes.specs.declared.unit_code.UnitCode.{UnitCode}
use Rattle.run_state.specs.Deeds.{no_cells, under_in}
use Rattle.run_state.specs.declared.machine.Extent.{Extent}
use Rattle.run_state.specs.declared.machine.Frame.{Frame}
use Rattle.run_state.specs.declared.machine.Item.{Item}
use Rattle.run_state.specs.declared.machine.Item.TheVariants.{Cells, Fresh}
use Rattle.run_state.specs.declared.machine.Setting.{Setting}
use Rattle.run_state.specs.declared.machine.State.{State}
use Rattle.run_state.proofs.Items.{under_oldest}
use Rattle.run_calls.specs.Calls.{new_size, seat, held_in, handed, handed_all, given_cells, given_all, shared_one, shared_all, given_back, given_back_all, cleared, value_at, returned, left_by, left}
use Rattle.run_calls.proofs.Loops.{held_long}

-- a state with other extents and cells
abbrev pub laid : List Extent → List Cell → State → State
laid es cs m = record m { extents = record m.extents { items = es }; cells = record m.cells { items = cs } }

no_more : {X : Type 0} (xs : List X) → xs ++ [] ≡ xs
no_more [] = refl
no_more (x ∷ xs) = ap (λ ys. x ∷ ys) (no_more xs)

laid_as : (m : State) (es es' : List Extent) (cs cs' : List Cell) → es ≡ es' → cs ≡ cs' → laid es cs m ≡ laid es' cs' m
laid_as m es es' cs cs' e c = ap (λ x. laid x cs m) e ∙ ap (λ x. laid es' x m) c

-- ---- passing on

abbrev pub seats_in : (ℕ → Bool) → ℕ → List Item → ℕ → List Extent
seats_in copies i [] next = []
seats_in copies i (x ∷ xs) next = seat (copies i) x (far next) ∷ seats_in copies (suc i) xs (next + new_size (copies i) x)

abbrev pub held_from : Bool → Item → Storage → List Cell
held_from copy (Fresh c) st = c ∷ []
held_from true (Cells e) st = contents st e.first e.size
held_from false (Cells e) st = []

abbrev pub news_in : (ℕ → Bool) → ℕ → List Item → Storage → List Cell
news_in copies i [] st = []
news_in copies i (x ∷ xs) st = held_from (copies i) x st ++ news_in copies (suc i) xs st

held_same : (copy : Bool) (x : Item) (base : ℕ) (cs : List Cell) → held_in copy x base cs ≡ held_from copy x (take base cs)
held_same copy (Fresh c) base cs = refl
held_same true (Cells e) base cs = refl
held_same false (Cells e) base cs = refl

pub handed_closed : (copies : ℕ → Bool) (i base : ℕ) (xs : List Item) (m : State) → base ≤ length m.cells.items
    → handed_all copies i base xs m ≡ laid (m.extents.items ++ seats_in copies i xs (length m.cells.items)) (m.cells.items ++ news_in copies i xs (take base m.cells.items)) m
handed_closed copies i base [] m h = sym (laid_as m (m.extents.items ++ []) m.extents.items (m.cells.items ++ []) m.cells.items (no_more m.extents.items) (no_more m.cells.items))
handed_closed copies i base (x ∷ xs) m h =
    let es = m.extents.items in
    let cs = m.cells.items in
    let new = held_in (copies i) x base cs in
    let s = seat (copies i) x (far (length cs)) in
    let l : length (cs ++ new) ≡ length cs + new_size (copies i) x = length-append cs new ∙ ap (λ k. length cs + k) (held_long (copies i) x base cs) in
    let t : take base (cs ++ new) ≡ take base cs = take-append-le base cs new h in
    let n : length (cs ++ new) ≡ length cs + length new = length-append cs new in
    handed_closed copies (suc i) base xs (handed (copies i) x base m) (omega arith)
    ∙ laid_as m ((es ++ s ∷ []) ++ seats_in copies (suc i) xs (length (cs ++ new))) (es ++ seats_in copies i (x ∷ xs) (length cs)) ((cs ++ new) ++ news_in copies (suc i) xs (take base (cs ++ new)))
    (cs ++ news_in copies i (x ∷ xs) (take base cs))
    (append_assoc es (s ∷ []) (seats_in copies (suc i) xs (length (cs ++ new))) ∙ ap (λ k. es ++ s ∷ seats_in copies (suc i) xs k) l)
    (ap (λ st. (cs ++ new) ++ news_in copies (suc i) xs st) t ∙ append_assoc cs new (news_in copies (suc i) xs (take base cs)) ∙ ap (λ c. cs ++ (c ++ news_in copies (suc i) xs (take base cs))) (held_same (copies i) x base cs))

-- ---- entering

none_and_more : (a b : ℕ) → replicate a Undefined ++ replicate b Undefined ≡ replicate (a + b) Undefined
none_and_more zero b = ap (λ k. replicate k Undefined) (let same : b ≡ 0 + b = omega arith in same)
none_and_more (suc a) b = ap (λ cs. Undefined ∷ cs) (none_and_more a b) ∙ ap (λ k. replicate k Undefined) (let same : suc (a + b) ≡ suc a + b = omega arith in same)

pub given_closed : (sizes : List ℕ) (m : State)
    → given_all sizes m ≡ laid (m.extents.items ++ map shortened (side_by_side sizes (length m.cells.items))) (m.cells.items ++ replicate (sum sizes) Undefined) m
given_closed [] m = sym (laid_as m (m.extents.items ++ []) m.extents.items (m.cells.items ++ []) m.cells.items (no_more m.extents.items) (no_more m.cells.items))
given_closed (size ∷ sizes) m =
    let es = m.extents.items in
    let cs = m.cells.items in
    let new : List Cell = replicate size Undefined in
    let s : Extent = record { first = far (length cs); size = size } in
    let l : length (cs ++ new) ≡ length cs + size = length-append cs new ∙ ap (λ k. length cs + k) (length-replicate size Undefined) in
    given_closed sizes (given_cells size m)
    ∙ laid_as m ((es ++ s ∷ []) ++ map shortened (side_by_side sizes (length (cs ++ new)))) (es ++ map shortened (side_by_side (size ∷ sizes) (length cs))) ((cs ++ new) ++ replicate (sum sizes) Undefined)
    (cs ++ replicate (sum (size ∷ sizes)) Undefined)
    (append_assoc es (s ∷ []) (map shortened (side_by_side sizes (length (cs ++ new)))) ∙ ap (λ k. es ++ s ∷ map shortened (side_by_side sizes k)) l)
    (append_assoc cs new (replicate (sum sizes) Undefined) ∙ ap (λ c. cs ++ c) (none_and_more size (sum sizes)) ∙ ap (λ k. cs ++ replicate k Undefined) (sym (sum_by-cons (λ x. x) size sizes)))

-- places that are there, of so many
abbrev pub AreBelow : ℕ → List ℕ → Type 0
AreBelow n [] = Unit {0}
AreBelow n (j ∷ js) = (j < n) × AreBelow n js

abbrev pub looked_up : List Extent → List ℕ → List Extent
looked_up es js = map (λ j. slice_index_or es j no_cells) js

later_too : (n k : ℕ) (js : List ℕ) → n ≤ k → AreBelow n js → AreBelow k js
later_too n k [] h b = tt
later_too n k (j ∷ js) h b = let here : j < n = b.0 in (omega arith, later_too n k js h b.1)

looked_up_before : (es more : List Extent) (js : List ℕ) → AreBelow (length es) js → looked_up (es ++ more) js ≡ looked_up es js
looked_up_before es more [] b = refl
looked_up_before es more (j ∷ js) b = ap (λ e. e ∷ looked_up (es ++ more) js) (get_or_append_left es more no_cells j b.0) ∙ ap (λ rest. slice_index_or es j no_cells ∷ rest) (looked_up_before es more js b.1)

pub shared_closed : (js : List ℕ) (m : State) → AreBelow (length m.extents.items) js → shared_all js m ≡ laid (m.extents.items ++ looked_up m.extents.items js) m.cells.items m
shared_closed [] m b = sym (laid_as m (m.extents.items ++ []) m.extents.items m.cells.items m.cells.items (no_more m.extents.items) refl)
shared_closed (j ∷ js) m b =
    let es = m.extents.items in
    let e = slice_index_or es j no_cells in
    let n : length (es ++ e ∷ []) ≡ length es + 1 = length-append es (e ∷ []) in
    shared_closed js (shared_one j m) (later_too (length es) (length (es ++ e ∷ [])) js (omega arith) b.1)
    ∙ laid_as m ((es ++ e ∷ []) ++ looked_up (es ++ e ∷ []) js) (es ++ looked_up es (j ∷ js)) m.cells.items m.cells.items
    (ap (λ x. (es ++ e ∷ []) ++ x) (looked_up_before es (e ∷ []) js b.1) ∙ append_assoc es (e ∷ []) (looked_up es js)) refl

-- ---- writing back

abbrev pub back_from : Bool → Item → ℕ → Storage → Storage
back_from copy (Fresh c) next st = st
back_from true (Cells e) next st = write (contents st next e.size) e.first st
back_from false (Cells e) next st = st

abbrev pub backs_in : (ℕ → Bool) → ℕ → ℕ → List Item → Storage → Storage
backs_in copies i next [] st = st
backs_in copies i next (x ∷ xs) st = backs_in copies (suc i) (far (next + new_size (copies i) x)) xs (back_from (copies i) x next st)

pub one_back : (copy : Bool) (x : Item) (next : ℕ) (m : State) → given_back copy x next m ≡ record m { cells = record m.cells { items = back_from copy x next m.cells.items } }
one_back copy (Fresh c) next m = refl
one_back true (Cells e) next m = refl
one_back false (Cells e) next m = refl

pub back_closed : (copies : ℕ → Bool) (i next : ℕ) (xs : List Item) (m : State)
    → given_back_all copies i next xs m ≡ record m { cells = record m.cells { items = backs_in copies i next xs m.cells.items } }
back_closed copies i next [] m = refl
back_closed copies i next (x ∷ xs) m =
    ap (given_back_all copies (suc i) (far (next + new_size (copies i) x)) xs) (one_back (copies i) x next m)
    ∙ back_closed copies (suc i) (far (next + new_size (copies i) x)) xs (record m { cells = record m.cells { items = back_from (copies i) x next m.cells.items } })

-- ---- lengths

pub sides_long : (sizes : List ℕ) (next : ℕ) → length (map shortened (side_by_side sizes next)) ≡ length sizes
sides_long [] next = refl
sides_long (size ∷ sizes) next = ap suc (sides_long sizes (next + size))

-- ---- back to a caller

low : (n : ℕ) (items : List Item) → length (oldest n items) ≤ n
low n items = let l : length (oldest n items) ≡ length items - (length items - n) = length-drop (length items - n) items in omega arith

fewer : (n : ℕ) (items : List Item) → length (under_in n items) ≤ length items
fewer n items = let l : length (oldest (length items - n) items) ≤ length items - n = low (length items - n) items in let same : length (oldest (length items - n) items) ≡ length (under_in n items) = ap length (under_oldest n items) in omega arith

-- there is room for a value where there was room at the unit's floor
pub room_back : (m : State) (n : ℕ) → m.frame.floor < m.values.room → length (under_in n (cleared m).values.items) < m.values.room
room_back m n h =
    let a : length (under_in n (oldest m.frame.floor m.values.items)) ≤ length (oldest m.frame.floor m.values.items) = fewer n (oldest m.frame.floor m.values.items) in
    let b : length (oldest m.frame.floor m.values.items) ≤ m.frame.floor = low m.frame.floor m.values.items in
    omega arith

pub left_some : (code : Code) (setting : Setting) (unit : UnitCode) (m : State) (f : Frame) (rest : Roomy Frame) → m.callers ≡ record rest { items = f ∷ rest.items }
    → left code setting unit m ≡ returned setting (slice_get code.units f.unit) f (value_at unit m) (record (cleared m) { callers = rest })
left_some code setting unit m f rest e = ap (λ (all : Roomy Frame). left_by code setting all.items (value_at unit m) (record (cleared m) { callers = all })) e
