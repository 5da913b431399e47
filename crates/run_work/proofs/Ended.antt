-- Units are left, and the flow goes on behind tests.
use Rattle.std.proofs.Common.{◌≡◌, ℕ, ◌+◌, ◌<◌, true, IsTrue, ◌||◌, List, [], ◌∷◌, length, drop, Option, Some, None, slice_get, refl, sym, ap, ◌∙◌, subst, arith}
use Rattle.std.specs.Prelude.{is_some}
use Rattle.std.proofs.lemmas.List.{drop_more, drop_all}
use Rattle.std.proofs.lemmas.Option.{slice_get_within, get_or_from_slice_get}
use Rattle.formula.specs.declared.value.Cell.{Cell}
use Rattle.fort_model.specs.Flow.{Loop}
use Rattle.fort_model.specs.Storage.{Storage}
use Rattle.fort_model.specs.Passing.{Taken}
use Rattle.run_frames.specs.Frames as frames
use Rattle.run_frames.specs.Frames.{Waiting}
use Rattle.run_frames.specs.Configs.{testing}
use Rattle.run_shapes.specs.Seen.{loops_of, out_of}
use Rattle.run_shapes.specs.declared.tests.Test.TheVariants as test
use Rattle.run_shapes.specs.declared.unit_code.Code.{Code}
use Rattle.run_shapes.specs.declared.unit_code.UnitCode.{UnitCode}
use Rattle.run_state.specs.Deeds.{gone_to, newest_in}
use Rattle.run_state.specs.Rests.{GoesSame, Same, IsSettled, waits_in, is_over_in, is_test, weight, weight_in, weight_of}
use Rattle.run_state.specs.Shows.{unit_code, code_left, ShowsTests}
use Rattle.run_state.specs.declared.machine.Frame.{Frame}
use Rattle.run_state.specs.declared.machine.Stage.{Stage}
use Rattle.run_state.specs.declared.machine.Stage.TheVariants as stage
use Rattle.run_state.specs.declared.machine.State.{State}
use Rattle.run_state.proofs.Arms.{at_point}
use Rattle.run_state.proofs.Glue.{acts_none, works_so}
use Rattle.run_state.proofs.Stages.{when_testing}
use Rattle.run_state.proofs.Weights.{none_less}
use Rattle.run_calls.specs.Calls.{back_in, cleared, copies_in, left, left_by, popped, returned, value_at}
use Rattle.run_calls.proofs.Closed.{back_closed}
use Rattle.run_calls.proofs.Left.{leaves}
use Rattle.run_ranks.specs.Laws.{IsReadyToLeave}
use Rattle.run_ranks.specs.Needs.{rank_at}
use Rattle.run_ranks.specs.Room.{Fits, HasCells, HasRoom, rooms_of}
use Rattle.run_ranks.specs.declared.ranks.Ranks.{Ranks}
use Rattle.run_ranks.proofs.Leaves.{keeps as leaves_keep, ready as leaves_ready}
use Rattle.run_ranks.proofs.Plain.{at_stage}
use Rattle.run_ranks.proofs.Within.{oldest_short, oldest_within}
use Rattle.run_work.specs.Ways.{CanWork}
use Rattle.run_work.specs.declared.program.Program.{Program}
use Rattle.run_work.proofs.Units.{unit_is, can_on, past}
use Rattle.run_work.proofs.Obeyed.{IsDone}

-- ---- where a step is wanted

pub settled_at : (code : Code) (m : State) (s : Stage) → m.stage ≡ s → waits_in code m.frame s ≡ true → IsSettled code m
settled_at code m s e h = subst (λ s. IsTrue (waits_in code m.frame s || is_over_in s)) (sym e) (subst (λ b. IsTrue (b || is_over_in s)) (sym h) refl)

-- ---- a unit is left

module _ (p : Program) (m : State) (can : CanWork p m) (e : m.stage ≡ stage.Between) where
  whole : weight p.code.now m ≡ 1 + weight_of p.code.now m.callers.items
  whole = ap (λ s. weight_in p.code.now s m.frame m.callers.items) e

  returned_less : (f : Frame) (fs : List Frame) (v : Cell) (o : Option UnitCode)
      → weight p.code.now (returned p.setting.now o f v (popped fs (cleared m))) < 1 + weight_of p.code.now (f ∷ fs)
  returned_less f fs v None = omega arith
  returned_less f fs v (Some unit) =
      let a : weight p.code.now (returned p.setting.now (Some unit) f v (popped fs (cleared m))) ≡ weight_of p.code.now (f ∷ fs)
      = ap (λ s. weight p.code.now (back_in f v s)) (back_closed (copies_in p.setting.now unit f.number) 1 f.base (newest_in f.actuals (cleared m).values.items []) (popped fs (cleared m))) in
      omega arith

  left_less : (fs : List Frame) (v : Cell) → weight p.code.now (left_by p.code.now p.setting.now fs v (cleared m)) < 1 + weight_of p.code.now fs
  left_less [] v = omega arith
  left_less (f ∷ fs) v = returned_less f fs v (slice_get p.code.now.units f.unit)

  ready_to_leave : IsReadyToLeave m
  ready_to_leave = leaves_ready p.code.now p.ranks.now can.most m (record { ranked = can.ranked; room = can.room }) e

  pub room_to_leave : IsReadyToLeave m
  room_to_leave = ready_to_leave

  -- a unit is left where no statement stands next
  pub is_left : (unit : UnitCode) → slice_get p.code.now.units m.frame.unit ≡ Some unit → slice_get unit.lines m.frame.line ≡ None → IsDone p m (left p.code.now p.setting.now unit m)
  is_left unit there none =
      let same = unit_is p.code.now m.frame.unit unit there in
      let here = unit_code p.code.now m.frame.unit in
      let less : weight p.code.now (left p.code.now p.setting.now here m) < 1 + weight_of p.code.now m.callers.items = left_less m.callers.items (value_at here m) in
      let all : weight p.code.now m ≡ 1 + weight_of p.code.now m.callers.items = whole in
      subst (λ (u : UnitCode). IsDone p m (left p.code.now p.setting.now u m)) same (
        record {
          same = leaves p.code.now p.setting.now m ready_to_leave.cells ready_to_leave.base e (ap (λ (u : UnitCode). slice_get u.lines m.frame.line) same ∙ none);
          less = omega arith;
        },
        can_on p m (left p.code.now p.setting.now here m) can (leaves_keep p.code.now p.setting.now p.ranks.now can.most m can.room e),
      )

  -- nothing is done where one does
  pub waits_between : (unit : UnitCode) → slice_get p.code.now.units m.frame.unit ≡ Some unit → is_some (slice_get unit.lines m.frame.line) ≡ true → IsSettled p.code.now m
  waits_between unit there some =
      settled_at p.code.now m stage.Between e (ap (λ (u : UnitCode). is_some (slice_get u.lines m.frame.line)) (unit_is p.code.now m.frame.unit unit there) ∙ some)

-- ---- on to a point

-- with the room of a unit that is run there is room at a point of it
pub room_at_point : (code : Code) (ranks : Ranks) (most : ℕ) (m : State) (q : ℕ) → Fits ranks (rooms_of most m) m m.frame.floor (rank_at ranks m.frame.unit).slots
    → HasCells ranks (rooms_of most m) m.frame.unit m.frame.before (length m.cells.items) → HasRoom code ranks most (gone_to q m)
room_at_point code ranks most m q f c = (
  record {
    needs = f.needs;
    callers = f.callers;
    extents = f.extents;
    small = f.small;
    most = f.most;
    extents_within = f.extents_within;
    values_within = oldest_within most m.frame.floor m.values.items f.values_within;
  },
  c,
  oldest_short m.frame.floor m.values.items,
)

-- where no instruction is left
pub is_over : (p : Program) (m : State) → CanWork p m → m.stage ≡ stage.Inside → code_left (unit_code p.code.now m.frame.unit) m.frame ≡ [] → IsDone p m (gone_to 0 m)
is_over p m can e none =
    let have = at_stage p.code.now p.ranks.now can.most m stage.Inside e can.room in (
      record { same = acts_none p.code.now p.setting.now m e none; less = none_less p.code.now m e },
      can_on p m (gone_to 0 m) can (room_at_point p.code.now p.ranks.now can.most m 0 have.0 have.1),
    )

-- where no DO is left to be tested
module _ (p : Program) (m : State) (can : CanWork p m) (e : m.stage ≡ stage.Testing) where
  tests_less : (q : ℕ) → weight p.code.now (gone_to q m) < weight p.code.now m
  tests_less q = let a : weight p.code.now m ≡ 2 + weight_of p.code.now m.callers.items = ap (λ s. weight_in p.code.now s m.frame m.callers.items) e in omega arith

  module _ (q : ℕ) (none : loops_of (unit_code p.code.now m.frame.unit).slots (drop m.frame.place (unit_code p.code.now m.frame.unit).tests) ≡ [])
      (point : out_of (drop m.frame.place (unit_code p.code.now m.frame.unit).tests) ≡ q) where
    tests_same : Same p.code.now p.setting.now m (gone_to q m)
    tests_same w world = when_testing p.code.now w m (λ c st. GoesSame w p.code.now c st (gone_to q m)) e in_unit
      where
        in_unit : (f : frames.Frame) (card q' : ℕ) (ds : List Loop) (ws : List Waiting) (xs : List Taken) (st : Storage)
            → ShowsTests w p.code.now m f card q' ds ws xs st → GoesSame w p.code.now (testing f card q' ds ws xs) st (gone_to q m)
        in_unit f card q' ds ws xs st s =
            subst (λ ds. GoesSame w p.code.now (testing f card q' ds ws xs) st (gone_to q m)) (sym none ∙ s.loops_are)
            (subst (λ k. GoesSame w p.code.now (testing f card k [] ws xs) st (gone_to q m)) (sym point ∙ s.point_is)
            (works_so w p.code.now (testing f card q [] ws xs) st (gone_to q m)
            (at_point w p.code.now m f ws xs st xs st q m.values.items m.cells.items s.unit_shown s.unit_shown.rest.values_are s.unit_shown.rest.cells_are)))

    tests_done : IsDone p m (gone_to q m)
    tests_done =
        let have = at_stage p.code.now p.ranks.now can.most m stage.Testing e can.room in (
          record { same = tests_same; less = tests_less q },
          can_on p m (gone_to q m) can (room_at_point p.code.now p.ranks.now can.most m q have.0 have.1),
        )

  module _ (unit : UnitCode) (there : slice_get p.code.now.units m.frame.unit ≡ Some unit) where
    same_unit : unit_code p.code.now m.frame.unit ≡ unit
    same_unit = unit_is p.code.now m.frame.unit unit there

    passes : (q : ℕ) → loops_of unit.slots (drop m.frame.place unit.tests) ≡ [] → out_of (drop m.frame.place unit.tests) ≡ q → IsDone p m (gone_to q m)
    passes q none point =
        tests_done q (ap (λ (u : UnitCode). loops_of u.slots (drop m.frame.place u.tests)) same_unit ∙ none) (ap (λ (u : UnitCode). out_of (drop m.frame.place u.tests)) same_unit ∙ point)

    -- behind the table of tests
    pub passes_none : slice_get unit.tests m.frame.place ≡ None → IsDone p m (gone_to 0 m)
    passes_none none =
        let over : drop m.frame.place unit.tests ≡ [] = drop_all m.frame.place unit.tests (past unit.tests m.frame.place none) in
        passes 0 (ap (loops_of unit.slots) over) (ap out_of over)

    -- at the point of it
    pub passes_out : (q : ℕ) → slice_get unit.tests m.frame.place ≡ Some (test.Out q) → IsDone p m (gone_to q m)
    passes_out q at =
        let next : drop m.frame.place unit.tests ≡ test.Out q ∷ drop (m.frame.place + 1) unit.tests
        = drop_more unit.tests m.frame.place (test.Out q) (slice_get_within unit.tests m.frame.place (test.Out q) at)
        ∙ ap (λ t. t ∷ drop (m.frame.place + 1) unit.tests) (get_or_from_slice_get unit.tests m.frame.place (test.Out q) (test.Out q) at) in
        passes q (ap (loops_of unit.slots) next) (ap out_of next)

    pub waits_testing : is_test (slice_get unit.tests m.frame.place) ≡ true → IsSettled p.code.now m
    waits_testing is = settled_at p.code.now m stage.Testing e (ap (λ (u : UnitCode). is_test (slice_get u.tests m.frame.place)) same_unit ∙ is)
