-- Instructions that lead elsewhere do what the model says.
use Rattle.std.proofs.Common.{◌≡◌, ℕ, zero, suc, ◌+◌, ◌<◌, ◌^◌, Bool, true, false, cond, nat_lt, List, [], ◌∷◌, length, take, drop, Option, Some, None, slice_get, refl, sym, ap, ◌∙◌, subst, arith}
use Rattle.std.specs.Prelude.{ℤ, pos, negsuc, Result, Ok, Err, get_or, is_some}
use Rattle.std.proofs.lemmas.Option.{slice_get_within, get_or_from_slice_get}
use Rattle.formula.specs.Values.{count, is_between}
use Rattle.formula.specs.declared.value.Cell.{Cell}
use Rattle.formula.specs.declared.value.Cell.TheVariants.{Int}
use Rattle.fort_syntax.specs.Names.{is_function}
use Rattle.fort_syntax.specs.declared.condition.Kind.{Kind}
use Rattle.fort_syntax.specs.declared.condition.Kind.TheVariants.{ResultCheck, ChoiceCheck}
use Rattle.fort_syntax.specs.declared.dialect.Dialect.{Dialect}
use Rattle.fort_syntax.specs.declared.dialect.Dialect.TheVariants.{Common, SeventySeven}
use Rattle.fort_syntax.specs.declared.name.Name.{Name}
use Rattle.fort_model.specs.Cells.{num, holds, is_defined}
use Rattle.fort_model.specs.Flow.{chosen}
use Rattle.fort_model.specs.Outcome.{check}
use Rattle.fort_model.specs.Passing.{Taken}
use Rattle.fort_model.specs.Perform.{result}
use Rattle.fort_model.specs.Storage.{Storage, load, store}
use Rattle.run_code.specs.Code as code_of
use Rattle.run_code.specs.Code.{below, first_of, second_of, third_of}
use Rattle.run_moves.specs.Moves.{Move, on, to_point, to_carried, to_error, to_chosen, settled, choosing, beginning, moved}
use Rattle.run_frames.specs.Frames as frames
use Rattle.run_frames.specs.Frames.{Waiting, scene_at, lowest}
use Rattle.run_intrinsics.specs.Loops.{begun_to, begun_move}
use Rattle.run_intrinsics.proofs.Starts as starts
use Rattle.run_shapes.specs.Seen.{name_at, seen_in, loops_of, out_of}
use Rattle.run_shapes.specs.Coded.{IsUnitCodeOf, InstrHasSlots}
use Rattle.run_shapes.specs.declared.instr.Instr.{Instr}
use Rattle.run_shapes.specs.declared.instr.Instr.TheVariants as instr
use Rattle.run_shapes.specs.declared.unit_code.Code.{Code}
use Rattle.run_shapes.specs.declared.unit_code.UnitCode.{UnitCode}
use Rattle.run_state.specs.Deeds.{under_in, extent_at, failed}
use Rattle.run_state.specs.Shows.{unit_code, World, IsWorldOf, ShowsStatement}
use Rattle.run_state.specs.Obeyed.{ShowsMove, Obeys}
use Rattle.run_state.specs.declared.machine.Setting.{Setting}
use Rattle.run_state.specs.declared.machine.Stage.TheVariants as stage
use Rattle.run_state.specs.declared.machine.State.{State}
use Rattle.run_state.proofs.Arms.{shows_on, shows_carried, shows_point, shows_tests, shows_error, shows_nothing}
use Rattle.run_state.proofs.Slots.{coded_shown}
use Rattle.run_elements.specs.Elements.{IsReady, value_below}
use Rattle.run_jumps.specs.Jumps.{left_for, turned, point_by_sign, chose, begun, led_by, is_jump}
use Rattle.run_jumps.proofs.Cells.{manner_of, dialect_so, first_so, second_so, third_so, one_less, three_less, load_so, store_so}

-- a number is between 1 and the number of points just where it counts one
between : (qs : List ℕ) (i : ℤ) → is_between (pos 1) (pos (length qs)) i ≡ is_some (chosen qs (count i))
between qs (negsuc n) = refl
between qs (pos zero) = refl
between qs (pos (suc j)) = counts (length qs) j ∙ sym (among qs j)
  where
    counts : (n j : ℕ) → is_between (pos 1) (pos n) (pos (suc j)) ≡ nat_lt j n
    counts n j = grind arith

    among : (qs : List ℕ) (j : ℕ) → is_some (slice_get qs j) ≡ nat_lt j (length qs)
    among [] j = grind arith
    among (q ∷ qs) zero = grind arith
    among (q ∷ qs) (suc j) = among qs j ∙ (let same : nat_lt j (length qs) ≡ nat_lt (suc j) (suc (length qs)) = grind arith in same)

module _ (w : World) (code : Code) (setting : Setting) (world : IsWorldOf code setting w) (m : State) (inside : m.stage ≡ stage.Inside)
    (cells_near : length m.cells.items < 2 ^ 64) (stop_near : m.frame.stop < 2 ^ 64) (f : frames.Frame) (card : ℕ) (is : List code_of.Instr) (ws : List Waiting) (xs : List Taken) (st : Storage) (s : ShowsStatement w code m f card is ws xs st) where
  abbrev unit : UnitCode
  unit = unit_code code m.frame.unit

  first : value_below 0 m ≡ first_of xs
  first = first_so w code setting world m cells_near f ws xs st s.unit_shown

  second : value_below 1 m ≡ second_of xs
  second = second_so w code setting world m cells_near f ws xs st s.unit_shown

  third : value_below 2 m ≡ third_of xs
  third = third_so w code setting world m cells_near f ws xs st s.unit_shown

  one_behind : (q : ℕ) → ShowsMove w code (left_for 1 q m) f card ws (to_point q (below xs) st)
  one_behind q =
      shows_point w code m f ws xs st (below xs) st card is inside s q (under_in 1 m.values.items) m.cells.items
      (one_less w code setting world m cells_near f ws xs st s.unit_shown)
      s.unit_shown.rest.cells_are

  let_go : ShowsMove w code (turned false m) f card ws (on is (below xs) st)
  let_go =
      shows_on w code m f ws xs st (below xs) st card is inside s (under_in 1 m.values.items) m.cells.items
      (one_less w code setting world m cells_near f ws xs st s.unit_shown)
      s.unit_shown.rest.cells_are

  same_state : ShowsMove w code m f card ws (on is xs st)
  same_state = shows_on w code m f ws xs st xs st card is inside s m.values.items m.cells.items s.unit_shown.rest.values_are s.unit_shown.rest.cells_are

  errs : (kind : Kind) → ShowsMove w code (failed kind m) f card ws (to_error kind card st)
  errs kind = shows_error w code m f ws xs st xs st card is inside s kind m.values.items m.cells.items s.unit_shown.rest.cells_are

  turns : (t : Bool) → ShowsMove w code (turned t m) f card ws (cond t (to_carried (drop 1 is) (below xs) st) (on is (below xs) st))
  turns true =
      shows_carried w code m f ws xs st (below xs) st card is inside s 1 (under_in 1 m.values.items) m.cells.items stop_near
      (one_less w code setting world m cells_near f ws xs st s.unit_shown)
      s.unit_shown.rest.cells_are
  turns false = let_go

  -- ---- one of several points

  chooses_common : (t : Bool) (o : Option ℕ) → t ≡ is_some o → ShowsMove w code (chose Common o m) f card ws (settled (check ChoiceCheck card t st 0) (λ _ st. to_chosen o (below xs) st))
  chooses_common true None e = absurd (cc)
  chooses_common true (Some q) e = one_behind q
  chooses_common false None e = errs ChoiceCheck
  chooses_common false (Some q) e = absurd (cc)

  chooses_later : (t : Bool) (o : Option ℕ) → t ≡ is_some o → ShowsMove w code (chose SeventySeven o m) f card ws (cond t (to_chosen o (below xs) st) (on is (below xs) st))
  chooses_later true None e = absurd (cc)
  chooses_later true (Some q) e = one_behind q
  chooses_later false None e = let_go
  chooses_later false (Some q) e = absurd (cc)

  chooses : (d : Dialect) (qs : List ℕ) (i : ℤ) → ShowsMove w code (chose d (chosen qs (count i)) m) f card ws (choosing d card qs i is (below xs) st)
  chooses Common qs i = chooses_common (is_between (pos 1) (pos (length qs)) i) (chosen qs (count i)) (between qs i)
  chooses SeventySeven qs i = chooses_later (is_between (pos 1) (pos (length qs)) i) (chosen qs (count i)) (between qs i)

  -- ---- the beginning of a DO

  module _ (slot : ℕ) (q : ℕ) (there : slot < length unit.slots.names) where
    abbrev cell : ℕ
    cell = (f.environment (name_at unit.slots slot)).first

    stored : (c : Cell) → store m.cells.items (extent_at m slot).first c ≡ store st cell c
    stored c = store_so w code setting world m cells_near f ws xs st s.unit_shown slot there c

    begins : (r : Result Bool Kind) (i : ℤ) → ShowsMove w code (begun r slot q i m) f card ws (begun_move r card cell q i is (below (below (below xs))) st)
    begins (Ok true) i =
        shows_point w code m f ws xs st (below (below (below xs))) (store st cell (Int i)) card is inside s q (under_in 3 m.values.items) (store m.cells.items (extent_at m slot).first (Int i))
        (three_less w code setting world m cells_near f ws xs st s.unit_shown)
        (stored (Int i))
    begins (Ok false) i =
        shows_on w code m f ws xs st (below (below (below xs))) (store st cell (Int i)) card is inside s (under_in 3 m.values.items) (store m.cells.items (extent_at m slot).first (Int i))
        (three_less w code setting world m cells_near f ws xs st s.unit_shown)
        (stored (Int i))
    begins (Err kind) i = errs kind

    begins_so : (d : Dialect) (m1 m2 m3 : ℤ)
        → ShowsMove w code (begun (begun_to d setting.bounds m1 m2 m3) slot q m1 m) f card ws
        (beginning d (scene_at w.processor w.units f) card (name_at unit.slots slot) q m1 m2 m3 is (below (below (below xs))) st)
    begins_so d m1 m2 m3 =
        subst (λ (move : Move). ShowsMove w code (begun (begun_to d setting.bounds m1 m2 m3) slot q m1 m) f card ws move)
        (sym (starts.exact setting.bounds (manner_of code setting) d (scene_at w.processor w.units f) card (name_at unit.slots slot) q m1 m2 m3 is (below (below (below xs))) st world.run_by))
        (begins (begun_to d setting.bounds m1 m2 m3) m1)

  -- ---- the value of a FUNCTION

  coded : IsUnitCodeOf w.units code.commons f.unit unit
  coded = coded_shown w code setting world m f ws xs st s.unit_shown

  defined : (t : Bool) → ShowsMove w code (cond t m (failed ResultCheck m)) f card ws (settled (check ResultCheck card t st 0) (λ _ st. on is xs st))
  defined true = same_state
  defined false = errs ResultCheck

  results : (b : Bool) → is_function f.unit ≡ b
      → ShowsMove w code (cond b (cond (is_defined (load m.cells.items (extent_at m unit.value).first)) m (failed ResultCheck m)) m) f card ws
      (settled (result (scene_at w.processor w.units f) card b st 0) (λ _ st. on is xs st))
  results false e = same_state
  results true e =
      let at : slice_get unit.slots.names unit.value ≡ Some f.unit.name = coded.result e in
      let named : name_at unit.slots unit.value ≡ f.unit.name = get_or_from_slice_get unit.slots.names unit.value f.unit.name [] at in
      let loaded : load m.cells.items (extent_at m unit.value).first ≡ load st (f.environment f.unit.name).first
      = load_so w code setting world m cells_near f ws xs st s.unit_shown unit.value (slice_get_within unit.slots.names unit.value f.unit.name at)
      ∙ ap (λ (x : Name). load st (f.environment x).first) named in
      subst (λ (c : Cell). ShowsMove w code (cond (is_defined c) m (failed ResultCheck m)) f card ws (settled (result (scene_at w.processor w.units f) card true st 0) (λ _ st. on is xs st)))
      (sym loaded)
      (defined (is_defined (load st (f.environment f.unit.name).first)))

  -- ---- each instruction

  by_form : (i : Instr) → is_jump i ≡ true → InstrHasSlots (length unit.slots.names) i
      → ShowsMove w code (led_by code setting i m) f card ws (moved (scene_at w.processor w.units f) card (seen_in unit i) is xs st)
  by_form (instr.Tests c place) e h =
      shows_tests w code m f ws xs st xs st card is inside s c place (out_of (drop place unit.tests)) (loops_of unit.slots (drop place unit.tests)) m.values.items m.cells.items refl refl
      s.unit_shown.rest.values_are s.unit_shown.rest.cells_are
  by_form (instr.Jump q) e h = shows_point w code m f ws xs st xs st card is inside s q m.values.items m.cells.items s.unit_shown.rest.values_are s.unit_shown.rest.cells_are
  by_form instr.Turn e h =
      subst (λ (c : Cell). ShowsMove w code (turned (holds c) m) f card ws (cond (holds (first_of xs)) (to_carried (drop 1 is) (below xs) st) (on is (below xs) st))) (sym first)
      (turns (holds (first_of xs)))
  by_form (instr.Signs place) e h =
      let l = get_or unit.targets place 0 in
      let z = get_or unit.targets (place + 1) 0 in
      let r = get_or unit.targets (place + 2) 0 in
      subst (λ (c : Cell). ShowsMove w code (left_for 1 (point_by_sign c l z r) m) f card ws (to_point (point_by_sign (first_of xs) l z r) (below xs) st)) (sym first)
      (one_behind (point_by_sign (first_of xs) l z r))
  by_form (instr.Ways q r) e h =
      subst (λ (c : Cell). ShowsMove w code (left_for 1 (cond (holds c) q r) m) f card ws (to_point (cond (holds (first_of xs)) q r) (below xs) st)) (sym first)
      (one_behind (cond (holds (first_of xs)) q r))
  by_form (instr.Choose place n) e h =
      let qs = take n (drop place unit.targets) in
      subst (λ (c : Cell). ShowsMove w code (chose code.dialect (chosen qs (count (num c))) m) f card ws (choosing w.processor.dialect card qs (num (first_of xs)) is (below xs) st)) (sym first)
      (subst (λ (d : Dialect). ShowsMove w code (chose code.dialect (chosen qs (count (num (first_of xs)))) m) f card ws (choosing d card qs (num (first_of xs)) is (below xs) st))
      (sym (dialect_so w code setting world))
      (chooses code.dialect qs (num (first_of xs))))
  by_form (instr.BeginDo slot q) e h =
      let move : Dialect → Move = λ d. beginning d (scene_at w.processor w.units f) card (name_at unit.slots slot) q (num (third_of xs)) (num (second_of xs)) (num (first_of xs)) is (below (below (below xs))) st in
      let by : ℤ → ℤ → ℤ → State = λ m1 m2 m3. begun (begun_to code.dialect setting.bounds m1 m2 m3) slot q m1 m in
      subst (λ (c : Cell). ShowsMove w code (by (num c) (num (value_below 1 m)) (num (value_below 0 m))) f card ws (move w.processor.dialect)) (sym third)
      (subst (λ (c : Cell). ShowsMove w code (by (num (third_of xs)) (num c) (num (value_below 0 m))) f card ws (move w.processor.dialect)) (sym second)
      (subst (λ (c : Cell). ShowsMove w code (by (num (third_of xs)) (num (second_of xs)) (num c)) f card ws (move w.processor.dialect)) (sym first)
      (subst (λ (d : Dialect). ShowsMove w code (by (num (third_of xs)) (num (second_of xs)) (num (first_of xs))) f card ws (move d)) (sym (dialect_so w code setting world))
      (begins_so slot q h code.dialect (num (third_of xs)) (num (second_of xs)) (num (first_of xs))))))
  by_form instr.ResultOf e h =
      subst (λ (b : Bool). ShowsMove w code (cond b (cond (is_defined (load m.cells.items (extent_at m unit.value).first)) m (failed ResultCheck m)) m) f card ws
      (settled (result (scene_at w.processor w.units f) card (is_function f.unit) st 0) (λ _ st. on is xs st)))
      (sym coded.kind)
      (results (is_function f.unit) refl)
  by_form instr.Stop e h = shows_nothing w code m f ws xs st xs st card is inside s m.values.items m.cells.items s.unit_shown.rest.cells_are
  by_form (instr.Number n) e h = absurd (cc)
  by_form instr.One e h = absurd (cc)
  by_form (instr.Truth b) e h = absurd (cc)
  by_form (instr.Place slot) e h = absurd (cc)
  by_form (instr.Load slot) e h = absurd (cc)
  by_form instr.Value e h = absurd (cc)
  by_form instr.Negate e h = absurd (cc)
  by_form (instr.Raise n) e h = absurd (cc)
  by_form (instr.Operation o) e h = absurd (cc)
  by_form (instr.Comparison o) e h = absurd (cc)
  by_form instr.Negation e h = absurd (cc)
  by_form (instr.SkipFalse k) e h = absurd (cc)
  by_form instr.Both e h = absurd (cc)
  by_form (instr.SkipTrue k) e h = absurd (cc)
  by_form instr.Either e h = absurd (cc)
  by_form (instr.Array slot n) e h = absurd (cc)
  by_form (instr.BuiltIn g n) e h = absurd (cc)
  by_form (instr.Refer place) e h = absurd (cc)
  by_form instr.Forget e h = absurd (cc)
  by_form instr.Assigned e h = absurd (cc)
  by_form (instr.Go c point) e h = absurd (cc)

pub obeyed : (code : Code) (setting : Setting) (i : Instr) (m : State) → is_jump i ≡ true → IsReady code i m → Obeys code setting i m (led_by code setting i m)
obeyed code setting i m jump ready w world f card is ws xs st inside s = by_form w code setting world m inside ready.cells_near ready.stop_near f card is ws xs st s i jump ready.has_slots
