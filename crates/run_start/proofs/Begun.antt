-- A state that is begun with the cells of a start is the first state of a run.
use Rattle.std.proofs.Common.{◌≡◌, ℕ, zero, suc, ◌+◌, ◌<◌, ◌≤◌, ◌^◌, Bool, true, false, cond, not, ◌&&◌, Option, Some, None, List, [], ◌∷◌, ◌++◌, length, map, get_or, slice_get, length-append, refl, sym, ap, ◌∙◌, subst, arith}
use Rattle.std.specs.Prelude.{max, sum, unwrap_or, ◌==◌}
use Rattle.std.specs.List.{list_all}
use Rattle.std.proofs.Math.Nat.{le-max_left, le-max_right}
use Rattle.std.proofs.lemmas.List.{length-replicate}
use Rattle.std.proofs.lemmas.List.Sums.{sum_by-cons}
use Rattle.formula.specs.Atoms.{same_bytes}
use Rattle.formula.specs.declared.value.Cell.TheVariants.{Undefined}
use Rattle.fort_syntax.specs.Names.{data_name}
use Rattle.fort_syntax.specs.declared.name.Name.{Name}
use Rattle.fort_syntax.specs.declared.unit.DataName.{DataName}
use Rattle.fort_syntax.specs.declared.unit.Unit.{Unit as Routine}
use Rattle.fort_notes.specs.declared.cases.Given.{Given}
use Rattle.fort_model.specs.Storage.{Environment, with_extents, side_by_side}
use Rattle.run_state.specs.Near.{far, segment, shortened}
use Rattle.run_state.specs.Deeds.{no_cells}
use Rattle.run_state.specs.Obeyed.{AreWithin, ExtentsWithin}
use Rattle.run_state.specs.Shows.{unit_code, ShowsCallers}
use Rattle.run_state.specs.declared.machine.Extent.{Extent}
use Rattle.run_state.specs.declared.machine.Frame.{Frame}
use Rattle.run_state.specs.declared.machine.Item.{Item}
use Rattle.run_state.specs.declared.machine.Setting.{Setting}
use Rattle.run_state.specs.declared.machine.Stage.{Stage}
use Rattle.run_state.specs.declared.machine.State.{State}
use Rattle.run_state.proofs.Nearly.{far_near}
use Rattle.run_state.proofs.Slots.{unit_coded}
use Rattle.run_ranks.specs.Needs.{no_rank, rank_at, cells_need, SizesWithin}
use Rattle.run_ranks.specs.Room.{HasRoom, HasRoomIn, AreRoomy, rooms_of}
use Rattle.run_ranks.specs.declared.ranks.UnitRank.{UnitRank}
use Rattle.run_start.specs.Counted.{number}
use Rattle.run_start.specs.Counting.{IsUnitOf, AreSizes, IsBegun}
use Rattle.run_start.specs.Decks.{longest_size, longest_rank}
use Rattle.run_start.specs.Filled.{filled, ends_from, segment_by}
use Rattle.run_start.specs.Places.{extent_in, first_place}
use Rattle.run_start.specs.Shapes.{sum_from, greatest_from}
use Rattle.run_start.specs.Started.{IsFirst, start_world}
use Rattle.run_start.specs.Starts.{cells_or, contents_of, entities, fits_cells, given_to, greatest_of, has_bad_shape, is_in_shape, nowhere_at_all, size_at_start, start_environment, start_storage}
use Rattle.run_start.specs.declared.runnable.Runnable.{Runnable}
use Rattle.run_start.proofs.Numbers.{AreBelow, below, below_sum, greatest_number, is_below, sum_number}

and_left : (a b : Bool) → (a && b) ≡ true → a ≡ true
and_left true b e = refl
and_left false b e = absurd (cc)

and_right : (a b : Bool) → (a && b) ≡ true → b ≡ true
and_right true b e = e
and_right false b e = absurd (cc)

not_false : (a : Bool) → not a ≡ false → a ≡ true
not_false true e = refl
not_false false e = absurd (cc)

near_size : (n : ℕ) → n < 2 ^ 64 → unwrap_or (number n) 0 ≡ n
near_size n h = ap (λ (o : Option ℕ). unwrap_or o 0) (below n h)

one_more : {X : Type 0} (f : X → ℕ) (x : X) (xs : List X) → sum (map f (x ∷ xs)) ≡ f x + sum (map f xs)
one_more f x xs = sum_by-cons (λ (y : ℕ). y) (f x) (map f xs)

-- ---- cells

module _ (u : Routine) (start : List Given) where
  filled_so : (xs : List Name) → AreBelow (size_at_start u start) xs → filled start xs (map (λ x. number (size_at_start u start x)) xs) ≡ contents_of u start xs
  filled_so [] h = refl
  filled_so (x ∷ xs) h =
      ap (λ n. cells_or n (given_to start x) ++ filled start xs (map (λ y. number (size_at_start u start y)) xs)) (near_size (size_at_start u start x) h.0)
      ∙ ap (λ cs. cells_or (size_at_start u start x) (given_to start x) ++ cs) (filled_so xs h.1)

  cells_long : (d : Option DataName) (n : ℕ) (g : Option Given) → fits_cells d n g ≡ true → length (cells_or n g) ≡ n
  cells_long d n None e = length-replicate n Undefined
  cells_long d n (Some g) e = let same : (length g.cells == n) ≡ true = and_left (length g.cells == n) _ e in grind arith

  contents_long : (xs : List Name) → list_all (is_in_shape u start) xs ≡ true → length (contents_of u start xs) ≡ sum (map (size_at_start u start) xs)
  contents_long [] e = refl
  contents_long (x ∷ xs) e =
      let here : is_in_shape u start x ≡ true = and_left (is_in_shape u start x) (list_all (is_in_shape u start) xs) e in
      let fits : fits_cells (data_name u x) (size_at_start u start x) (given_to start x) ≡ true = and_right _ (fits_cells (data_name u x) (size_at_start u start x) (given_to start x)) here in
      let one : length (cells_or (size_at_start u start x) (given_to start x)) ≡ size_at_start u start x = cells_long (data_name u x) (size_at_start u start x) (given_to start x) fits in
      let rest : length (contents_of u start xs) ≡ sum (map (size_at_start u start) xs) = contents_long xs (and_right (is_in_shape u start x) (list_all (is_in_shape u start) xs) e) in
      let all : length (cells_or (size_at_start u start x) (given_to start x) ++ contents_of u start xs) ≡ length (cells_or (size_at_start u start x) (given_to start x)) + length (contents_of u start xs)
      = length-append (cells_or (size_at_start u start x) (given_to start x)) (contents_of u start xs) in
      let more : sum (map (size_at_start u start) (x ∷ xs)) ≡ size_at_start u start x + sum (map (size_at_start u start) xs) = one_more (size_at_start u start) x xs in
      omega arith

  storage_long : has_bad_shape u start ≡ false → length (start_storage u start) ≡ sum (map (size_at_start u start) (entities u))
  storage_long e = contents_long (entities u) (not_false (list_all (is_in_shape u start) (entities u)) e)

-- what the sum says
record IsSum (u : Routine) (start : List Given) (count : ℕ) : Type 0 where
  total : sum (map (size_at_start u start) (entities u)) ≡ count
  near : count < 2 ^ 64

sum_of : (u : Routine) (start : List Given) (sizes : List (Option ℕ)) (count : ℕ) → sizes ≡ map (λ x. number (size_at_start u start x)) (entities u) → sum_from (Some 0) sizes ≡ Some count → IsSum u start count
sum_of u start sizes count same e =
    let f = size_at_start u start in
    let none : number 0 ≡ Some 0 = below 0 (grind arith) in
    let counted : number (0 + sum (map f (entities u))) ≡ Some count =
    sym (sum_number f 0 (entities u)) ∙ ap (λ (o : Option ℕ). sum_from o (map (λ x. number (f x)) (entities u))) none ∙ ap (sum_from (Some 0)) (sym same) ∙ e in
    let both = is_below (0 + sum (map f (entities u))) count counted in
    let total : 0 + sum (map f (entities u)) ≡ count = both.0 in
    let near : 0 + sum (map f (entities u)) < 2 ^ 64 = both.1 in
    record { total = omega arith; near = omega arith }

all_near : (u : Routine) (start : List Given) (count : ℕ) → IsSum u start count → AreBelow (size_at_start u start) (entities u)
all_near u start count is =
    let total : sum (map (size_at_start u start) (entities u)) ≡ count = is.total in
    let near : count < 2 ^ 64 = is.near in
    below_sum (size_at_start u start) (entities u) (omega arith)

-- there are as many cells as the sum says
pub filled_long : (u : Routine) (start : List Given) (sizes : List (Option ℕ)) (count : ℕ) → AreSizes u start sizes → sum_from (Some 0) sizes ≡ Some count
    → length (filled start (entities u) sizes) ≡ count
filled_long u start sizes count are e =
    let is = sum_of u start sizes count are.sizes_are e in
    ap (λ os. length (filled start (entities u) os)) are.sizes_are ∙ ap length (filled_so u start (entities u) (all_near u start count is)) ∙ storage_long u start are.shaped ∙ is.total

-- ---- extents

-- a place further on in a longer list
place_shift : (e : Extent) (es : List Extent) (ys : List Name) (x : Name) (i : ℕ) → extent_in (e ∷ es) (first_place ys x (suc i)) ≡ extent_in es (first_place ys x i)
place_shift e es [] x i = refl
place_shift e es (y ∷ ys) x i = by (same_bytes y x) (place_shift e es ys x (suc i))
  where
    by : (b : Bool) → extent_in (e ∷ es) (first_place ys x (suc (suc i))) ≡ extent_in es (first_place ys x (suc i))
        → extent_in (e ∷ es) (cond b (Some (suc i)) (first_place ys x (suc (suc i)))) ≡ extent_in es (cond b (Some i) (first_place ys x (suc i)))
    by true rest = refl
    by false rest = rest

extent_so : (f : Name → ℕ) (ys : List Name) (first : ℕ) (x : Name) → AreBelow f ys → first + sum (map f ys) < 2 ^ 64
    → shortened (with_extents ys (side_by_side (map f ys) first) nowhere_at_all x) ≡ extent_in (ends_from first (map (λ y. number (f y)) ys)) (first_place ys x 0)
extent_so f [] first x h near = ap (λ k. record { first = k; size = 0 }) (far_near 0 (grind arith))
extent_so f (y ∷ ys) first x h near =
    let more : sum (map f (y ∷ ys)) ≡ f y + sum (map f ys) = one_more f y ys in
    by (same_bytes y x) (omega arith) (near_size (f y) h.0) (far_near (first + f y) (omega arith)) (extent_so f ys (first + f y) x h.1 (omega arith))
  where
    by : (b : Bool) → first < 2 ^ 64 → unwrap_or (number (f y)) 0 ≡ f y → far (first + f y) ≡ first + f y
        → shortened (with_extents ys (side_by_side (map f ys) (first + f y)) nowhere_at_all x) ≡ extent_in (ends_from (first + f y) (map (λ z. number (f z)) ys)) (first_place ys x 0)
        → shortened (cond b (record { first = first; size = f y }) (with_extents ys (side_by_side (map f ys) (first + f y)) nowhere_at_all x))
        ≡ extent_in (ends_from first (map (λ z. number (f z)) (y ∷ ys))) (cond b (Some 0) (first_place ys x 1))
    by true h size next rest = ap (λ k. record { first = k; size = f y }) (far_near first h) ∙ ap (λ n. record { first = first; size = n }) (sym size)
    by false h size next rest =
        rest
        ∙ ap (λ k. extent_in (ends_from k (map (λ z. number (f z)) ys)) (first_place ys x 0)) (sym next ∙ ap (λ n. far (first + n)) (sym size))
        ∙ sym (place_shift (record { first = first; size = unwrap_or (number (f y)) 0 }) (ends_from (far (first + unwrap_or (number (f y)) 0)) (map (λ z. number (f z)) ys)) ys x 0)

segment_so : (all : List Name) (ends : List Extent) (env : Environment) (names : List Name) → ((x : Name) → shortened (env x) ≡ extent_in ends (first_place all x 0)) → segment_by all ends names ≡ segment env names
segment_so all ends env [] same = refl
segment_so all ends env (x ∷ names) same = ap (λ e. e ∷ segment_by all ends names) (sym (same x)) ∙ ap (λ es. shortened (env x) ∷ es) (segment_so all ends env names same)

extents_so : (u : Routine) (start : List Given) (count : ℕ) → IsSum u start count → (names : List Name)
    → segment_by (entities u) (ends_from 0 (map (λ x. number (size_at_start u start x)) (entities u))) names ≡ segment (start_environment u start) names
extents_so u start count is names =
    let total : sum (map (size_at_start u start) (entities u)) ≡ count = is.total in
    let near : count < 2 ^ 64 = is.near in
    segment_so (entities u) (ends_from 0 (map (λ x. number (size_at_start u start x)) (entities u))) (start_environment u start) names
    (λ x. extent_so (size_at_start u start) (entities u) 0 x (all_near u start count is) (omega arith))

-- ---- how long

max_left : (a b most : ℕ) → max a b ≤ most → a ≤ most
max_left a b most h = let less : a ≤ max a b = le-max_left a b in omega arith

max_right : (a b most : ℕ) → max a b ≤ most → b ≤ most
max_right a b most h = let less : b ≤ max a b = le-max_right a b in omega arith

ends_within : (most : ℕ) (f : Name → ℕ) (ys : List Name) (first : ℕ) → AreBelow f ys → greatest_of (map f ys) ≤ most → ExtentsWithin most (ends_from first (map (λ y. number (f y)) ys))
ends_within most f [] first h g = tt
ends_within most f (y ∷ ys) first h g =
    let one : f y ≤ most = max_left (f y) (greatest_of (map f ys)) most g in
    let size : unwrap_or (number (f y)) 0 ≡ f y = near_size (f y) h.0 in
    ((let less : unwrap_or (number (f y)) 0 ≤ most = omega arith in less), ends_within most f ys (far (first + unwrap_or (number (f y)) 0)) h.1 (max_right (f y) (greatest_of (map f ys)) most g))

item_within : (most : ℕ) (es : List Extent) (k : ℕ) → ExtentsWithin most es → (get_or es k no_cells).size ≤ most
item_within most [] k h = omega arith
item_within most (e ∷ es) zero h = h.0
item_within most (e ∷ es) (suc k) h = item_within most es k h.1

extent_within : (most : ℕ) (es : List Extent) (o : Option ℕ) → ExtentsWithin most es → (extent_in es o).size ≤ most
extent_within most es None h = omega arith
extent_within most es (Some k) h = item_within most es k h

segment_within : (most : ℕ) (all : List Name) (ends : List Extent) (names : List Name) → ExtentsWithin most ends → ExtentsWithin most (segment_by all ends names)
segment_within most all ends [] h = tt
segment_within most all ends (x ∷ names) h = (extent_within most ends (first_place all x 0) h, segment_within most all ends names h)

both_within : (most : ℕ) (es fs : List Extent) → ExtentsWithin most es → ExtentsWithin most fs → ExtentsWithin most (es ++ fs)
both_within most [] fs h k = k
both_within most (e ∷ es) fs h k = (h.0, both_within most es fs h.1 k)

sizes_within : (most : ℕ) (ns : List ℕ) (q : ℕ) → longest_size q ns ≤ most → (q ≤ most) × SizesWithin most ns
sizes_within most [] q h = (h, tt)
sizes_within most (n ∷ ns) q h =
    let rest = sizes_within most ns (max q n) h in
    (max_left q n most rest.0, (max_right q n most rest.0, rest.1))

ranks_within : (most : ℕ) (rs : List UnitRank) (q : ℕ) → longest_rank q rs ≤ most → (q ≤ most) × ((i : ℕ) → SizesWithin most (get_or rs i no_rank).own)
ranks_within most [] q h = (h, λ i. tt)
ranks_within most (r ∷ rs) q h =
    let rest = ranks_within most rs (longest_size q r.own) h in
    let here = sizes_within most r.own q rest.0 in
    (here.0, by here.1 rest.1)
  where
    by : SizesWithin most r.own → ((i : ℕ) → SizesWithin most (get_or rs i no_rank).own) → (i : ℕ) → SizesWithin most (get_or (r ∷ rs) i no_rank).own
    by first others zero = first
    by first others (suc i) = others i

-- ---- the first state

long : {A B : Type 0} (f : A → B) (xs : List A) → length (map f xs) ≡ length xs
long f [] = refl
long f (x ∷ xs) = ap suc (long f xs)

module _ (deck : Runnable) (setting : Setting) (i : ℕ) (u : Routine) (given : List Given) (sizes : List (Option ℕ)) (count most : ℕ) (m : State)
    (unit : IsUnitOf deck i u) (are : AreSizes u given sizes) (sum_is : sum_from (Some 0) sizes ≡ Some count)
    (greatest_is : greatest_from (Some deck.starts.now.longest) sizes ≡ Some most) (cells_near : m.cells.room < 2 ^ 64) (b : IsBegun deck i u given sizes count most m) where
  abbrev env : Environment
  env = start_environment u given

  abbrev commons : List Name
  commons = deck.code.now.commons

  abbrev ends : List Extent
  ends = ends_from 0 (map (λ x. number (size_at_start u given x)) (entities u))

  is_sum : IsSum u given count
  is_sum = sum_of u given sizes count are.sizes_are sum_is

  names_so : m.extents.items ≡ segment_by (entities u) ends commons ++ segment_by (entities u) ends u.dummies
  names_so = b.names_are ∙ ap (λ os. segment_by (entities u) (ends_from 0 os) commons ++ segment_by (entities u) (ends_from 0 os) u.dummies) are.sizes_are

  shown_names : m.extents.items ≡ segment env commons ++ segment env u.dummies
  shown_names =
      names_so ∙ ap (λ es. es ++ segment_by (entities u) ends u.dummies) (extents_so u given count is_sum commons) ∙ ap (λ es. segment env commons ++ es) (extents_so u given count is_sum u.dummies)

  cells_so : m.cells.items ≡ start_storage u given
  cells_so = b.cells_are ∙ ap (filled given (entities u)) are.sizes_are ∙ filled_so u given (entities u) (all_near u given count is_sum)

  one_longest : 1 ≤ deck.starts.now.longest
  one_longest =
      let e : deck.starts.now.longest ≡ longest_rank 1 deck.ranks.now.units = unit.starts.longest in
      (ranks_within deck.starts.now.longest deck.ranks.now.units 1 (omega arith)).0

  most_so : max deck.starts.now.longest (greatest_of (map (size_at_start u given) (entities u))) ≡ most
  most_so =
      let f = size_at_start u given in
      let e : Some (max deck.starts.now.longest (greatest_of (map f (entities u)))) ≡ Some most =
      sym (greatest_number f deck.starts.now.longest (entities u) one_longest (all_near u given count is_sum)) ∙ ap (greatest_from (Some deck.starts.now.longest)) (sym are.sizes_are) ∙ greatest_is in
      (let same : max deck.starts.now.longest (greatest_of (map f (entities u))) ≡ most = cc in same)

  most_long : deck.starts.now.longest ≤ most
  most_long = max_left deck.starts.now.longest (greatest_of (map (size_at_start u given) (entities u))) most (let e = most_so in omega arith)

  most_great : greatest_of (map (size_at_start u given) (entities u)) ≤ most
  most_great = max_right deck.starts.now.longest (greatest_of (map (size_at_start u given) (entities u))) most (let e = most_so in omega arith)

  own_so : (j : ℕ) → SizesWithin most (rank_at deck.ranks.now j).own
  own_so =
      let e : deck.starts.now.longest ≡ longest_rank 1 deck.ranks.now.units = unit.starts.longest in
      let h : deck.starts.now.longest ≤ most = most_long in
      (ranks_within most deck.ranks.now.units 1 (omega arith)).1

  extents_within : ExtentsWithin most m.extents.items
  extents_within =
      let w = ends_within most (size_at_start u given) (entities u) 0 (all_near u given count is_sum) most_great in
      subst (λ (es : List Extent). ExtentsWithin most es) (sym names_so)
      (both_within most (segment_by (entities u) ends commons) (segment_by (entities u) ends u.dummies) (segment_within most (entities u) ends commons w) (segment_within most (entities u) ends u.dummies w))

  extents_long : length m.extents.items ≡ length commons + length u.dummies
  extents_long =
      let e : length m.extents.items ≡ length (segment_by (entities u) ends commons ++ segment_by (entities u) ends u.dummies) = ap length names_so in
      let s : length (segment_by (entities u) ends commons ++ segment_by (entities u) ends u.dummies) ≡ length (segment_by (entities u) ends commons) + length (segment_by (entities u) ends u.dummies)
      = length-append (segment_by (entities u) ends commons) (segment_by (entities u) ends u.dummies) in
      let c : length (segment_by (entities u) ends commons) ≡ length commons = long (λ x. extent_in ends (first_place (entities u) x 0)) commons in
      let d : length (segment_by (entities u) ends u.dummies) ≡ length u.dummies = long (λ x. extent_in ends (first_place (entities u) x 0)) u.dummies in
      omega arith

  has_room : HasRoom deck.code.now deck.ranks.now most m
  has_room =
      let code = deck.code.now in
      let ranks = deck.ranks.now in
      let r = rooms_of most m in
      let none : length m.values.items ≡ 0 = ap length b.no_values in
      let no_frames : length m.callers.items ≡ 0 = ap length b.no_callers in
      let frames : (rank_at ranks m.frame.unit).frames ≡ m.callers.room = ap (λ k. (rank_at ranks k).frames) b.unit_is ∙ sym b.callers_room in
      let values : (rank_at ranks m.frame.unit).values ≡ m.values.room = ap (λ k. (rank_at ranks k).values) b.unit_is ∙ sym b.values_room in
      let names : (rank_at ranks m.frame.unit).names ≡ (rank_at ranks i).names = ap (λ k. (rank_at ranks k).names) b.unit_is in
      let names_room : length commons + (rank_at ranks i).names ≤ m.extents.room = b.names_room in
      let behind : m.frame.extents ≡ length commons = b.extents_are in
      let dummies : (unit_code code m.frame.unit).slots.dummies ≡ length u.dummies =
      ap (λ k. (unit_code code k).slots.dummies) b.unit_is ∙ (unit_coded code.dialect deck.units.now code unit.runnable.coded i u unit.unit_at).slotted.dummies_counted in
      let extents : length m.extents.items ≡ length commons + length u.dummies = extents_long in
      let need : cells_need most (rank_at ranks m.frame.unit) ≡ cells_need most (rank_at ranks i) = ap (λ k. cells_need most (rank_at ranks k)) b.unit_is in
      let room : m.cells.room ≡ count + cells_need most (rank_at ranks i) = b.cells_room in
      let cells : length m.cells.items ≡ count = ap length b.cells_are ∙ filled_long u given sizes count are sum_is in
      let near : m.cells.room < 2 ^ 64 = cells_near in
      let one : 1 ≤ deck.starts.now.longest = one_longest in
      let more : deck.starts.now.longest ≤ most = most_long in
      subst (λ (s : Stage). HasRoomIn s code ranks r m) (sym b.stage_is) (
        record {
          needs = record { frames = omega arith; values = omega arith; names = omega arith };
          callers = subst (λ (fs : List Frame). AreRoomy ranks r (length m.values.items) m.frame.extents fs) (sym b.no_callers) tt;
          extents = omega arith;
          small = omega arith;
          most = omega arith;
          extents_within = extents_within;
          values_within = subst (λ (vs : List Item). AreWithin most vs) (sym b.no_values) tt;
        },
        omega arith,
      )

  pub begun_first : IsFirst deck.units.now deck.code.now deck.ranks.now setting u given m
  begun_first = record {
    world = record { run_by = refl; coded = unit.runnable.coded; apart = unit.runnable.apart; fit_calls = unit.runnable.fit_calls };
    shows = (
      b.stage_is,
      record {
        unit_is = ap (slice_get deck.units.now) b.unit_is ∙ unit.unit_at;
        extents_are = b.extents_are ∙ sym (long (λ x. shortened (env x)) commons);
        names_are = shown_names;
        commons_are = λ x h. refl;
        rest = record {
          callers_are = subst (λ (fs : List Frame). ShowsCallers (start_world deck.code.now deck.units.now setting u given) deck.code.now fs []) (sym b.no_callers) tt;
          values_are = b.no_values;
          cells_are = cells_so;
        };
      },
    );
    most = most;
    room = has_room;
    own_within = own_so;
  }
