-- What happens within a unit keeps the room.
use Rattle.std.proofs.Common.{◌≡◌, ℕ, suc, ◌+◌, ◌-◌, ◌<◌, ◌≤◌, length, Some, slice_get, sym, ap, ◌∙◌, subst, arith}
use Rattle.run_shapes.specs.declared.unit_code.Code.{Code}
use Rattle.run_shapes.specs.declared.unit_code.LineCode.{LineCode}
use Rattle.run_state.specs.Deeds.{advanced}
use Rattle.run_state.specs.Obeyed.{IsNoHigher, IsPlain, IsSameFrame}
use Rattle.run_state.specs.Shows.{unit_code}
use Rattle.run_state.specs.declared.machine.Frame.{Frame}
use Rattle.run_state.specs.declared.machine.Stage.{Stage}
use Rattle.run_state.specs.declared.machine.Stage.TheVariants as stage
use Rattle.run_state.specs.declared.machine.State.{State}
use Rattle.run_ranks.specs.Needs.{rank_at}
use Rattle.run_ranks.specs.Room.{Fits, HasCells, HasRoom, HasRoomIn, rooms_of}
use Rattle.run_ranks.specs.Laws.{IsRoom, IsTested, line_begun}
use Rattle.run_ranks.specs.declared.ranks.Ranks.{Ranks}

-- the room of a state at its stage
pub at_stage : (code : Code) (ranks : Ranks) (most : ℕ) (m : State) (s : Stage) → m.stage ≡ s → HasRoom code ranks most m → HasRoomIn s code ranks (rooms_of most m) m
at_stage code ranks most m s e room = subst (λ s. HasRoomIn s code ranks (rooms_of most m) m) e room

-- ---- a plain change of a state

abbrev same_frame : Frame → Frame → Frame
same_frame old new = record new { unit = old.unit; stop = old.stop; extents = old.extents; before = old.before; floor = old.floor }

frame_is : (old new : Frame) → IsSameFrame old new → same_frame old new ≡ new
frame_is old new p =
    ap (λ x. record new { unit = x; stop = old.stop; extents = old.extents; before = old.before; floor = old.floor }) (sym p.unit)
    ∙ ap (λ x. record new { stop = x; extents = old.extents; before = old.before; floor = old.floor }) (sym p.stop)
    ∙ ap (λ x. record new { extents = x; before = old.before; floor = old.floor }) (sym p.extents)
    ∙ ap (λ x. record new { before = x; floor = old.floor }) (sym p.before)
    ∙ ap (λ x. record new { floor = x }) (sym p.floor)

abbrev shape : State → State → State
shape old new = record new {
  frame = record new.frame { unit = old.frame.unit; stop = old.frame.stop; extents = old.frame.extents; before = old.frame.before; floor = old.frame.floor };
  callers = old.callers;
  extents = old.extents;
  cells = record new.cells { room = old.cells.room };
  values = record new.values { room = old.values.room };
}

shape_is : (old new : State) → IsPlain old new → shape old new ≡ new
shape_is old new p =
    ap (λ x. record new { frame = x; callers = old.callers; extents = old.extents; cells = record new.cells { room = old.cells.room }; values = record new.values { room = old.values.room } })
    (frame_is old.frame new.frame p.frame)
    ∙ ap (λ x. record new { callers = x; extents = old.extents; cells = record new.cells { room = old.cells.room }; values = record new.values { room = old.values.room } }) (sym p.callers)
    ∙ ap (λ x. record new { extents = x; cells = record new.cells { room = old.cells.room }; values = record new.values { room = old.values.room } }) (sym p.extents)
    ∙ ap (λ x. record new { cells = record new.cells { room = x }; values = record new.values { room = old.values.room } }) (sym p.cells_room)
    ∙ ap (λ x. record new { values = record new.values { room = x } }) (sym p.values_room)

module _ (code : Code) (ranks : Ranks) (most : ℕ) (m : State) where
  -- ---- within a statement

  pub ready : IsRoom code ranks most m → m.stage ≡ stage.Inside → m.frame.place < m.frame.stop → length m.values.items < m.values.room
  ready r e h =
      let have = at_stage code ranks most m stage.Inside e r.room in
      let a : length m.values.items + (m.frame.stop - m.frame.place) ≤ m.frame.floor + (rank_at ranks m.frame.unit).long = have.2 in
      let b : (rank_at ranks m.frame.unit).long ≤ (rank_at ranks m.frame.unit).values = r.ranked.values m.frame.unit in
      let c : m.frame.floor + (rank_at ranks m.frame.unit).values ≤ m.values.room = have.0.needs.values in
      omega arith

  module _ (new : State) (e : m.stage ≡ stage.Inside) (h : m.frame.place < m.frame.stop) (p : IsPlain (advanced m) new) (room : HasRoom code ranks most m) where
    have : HasRoomIn stage.Inside code ranks (rooms_of most m) m
    have = at_stage code ranks most m stage.Inside e room

    fits : Fits ranks (rooms_of most m) (shape (advanced m) new) m.frame.floor (rank_at ranks m.frame.unit).slots
    fits = record {
      needs = have.0.needs;
      callers = have.0.callers;
      extents = have.0.extents;
      small = have.0.small;
      most = have.0.most;
      extents_within = have.0.extents_within;
      values_within = p.within most have.0.most have.0.extents_within have.0.values_within;
    }

    cells : HasCells ranks (rooms_of most m) m.frame.unit m.frame.before (length new.cells.items)
    cells = subst (λ k. HasCells ranks (rooms_of most m) m.frame.unit m.frame.before k) (sym p.cells) have.1

    high : length m.values.items + (m.frame.stop - m.frame.place) ≤ m.frame.floor + (rank_at ranks m.frame.unit).long
    high = have.2

    on : m.frame.place + 1 ≤ new.frame.place → length new.values.items ≤ suc (length m.values.items)
        → length new.values.items + (m.frame.stop - new.frame.place) ≤ m.frame.floor + (rank_at ranks m.frame.unit).long
    on a b = let c : length m.values.items + (m.frame.stop - m.frame.place) ≤ m.frame.floor + (rank_at ranks m.frame.unit).long = high in omega arith

    by_stage : (s : Stage) → IsNoHigher s (advanced m) new → HasRoomIn s code ranks (rooms_of most m) (shape (advanced m) new)
    by_stage stage.Entering v = absurd v
    by_stage stage.Between v = (fits, cells, v)
    by_stage stage.Inside v = (fits, cells, on v.0 v.1)
    by_stage stage.Carried v = (fits, cells, on v.0 v.1)
    by_stage stage.Testing v =
        let a : length new.values.items ≤ length m.values.items = v in
        let c : length m.values.items + (m.frame.stop - m.frame.place) ≤ m.frame.floor + (rank_at ranks m.frame.unit).long = high in
        (fits, cells, omega arith)
    by_stage (stage.Ended c) v = tt
    by_stage (stage.Erred kind) v = tt
    by_stage stage.Nowhere v = tt

    kept : HasRoom code ranks most new
    kept = subst (HasRoom code ranks most) (shape_is (advanced m) new p) (by_stage new.stage p.values)

  pub keeps : (new : State) → HasRoom code ranks most m → m.stage ≡ stage.Inside → m.frame.place < m.frame.stop → IsPlain (advanced m) new → HasRoom code ranks most new
  keeps new room e h p = kept new e h p room

  -- ---- tests of DOs

  module _ (new : State) (e : m.stage ≡ stage.Testing) (p : IsPlain m new) (room : HasRoom code ranks most m) where
    have_tests : HasRoomIn stage.Testing code ranks (rooms_of most m) m
    have_tests = at_stage code ranks most m stage.Testing e room

    fits_tests : Fits ranks (rooms_of most m) (shape m new) m.frame.floor (rank_at ranks m.frame.unit).slots
    fits_tests = record {
      needs = have_tests.0.needs;
      callers = have_tests.0.callers;
      extents = have_tests.0.extents;
      small = have_tests.0.small;
      most = have_tests.0.most;
      extents_within = have_tests.0.extents_within;
      values_within = p.within most have_tests.0.most have_tests.0.extents_within have_tests.0.values_within;
    }

    cells_tests : HasCells ranks (rooms_of most m) m.frame.unit m.frame.before (length new.cells.items)
    cells_tests = subst (λ k. HasCells ranks (rooms_of most m) m.frame.unit m.frame.before k) (sym p.cells) have_tests.1

    by_test : (s : Stage) → IsTested s → IsNoHigher s m new → HasRoomIn s code ranks (rooms_of most m) (shape m new)
    by_test stage.Entering t v = absurd t
    by_test stage.Between t v = (fits_tests, cells_tests, v)
    by_test stage.Inside t v = absurd t
    by_test stage.Carried t v = absurd t
    by_test stage.Testing t v =
        let a : length new.values.items ≤ length m.values.items = v in
        let c : length m.values.items ≤ m.frame.floor + (rank_at ranks m.frame.unit).long = have_tests.2 in
        (fits_tests, cells_tests, omega arith)
    by_test (stage.Ended c) t v = tt
    by_test (stage.Erred kind) t v = tt
    by_test stage.Nowhere t v = tt

    kept_tests : IsTested new.stage → HasRoom code ranks most new
    kept_tests t = subst (HasRoom code ranks most) (shape_is m new p) (by_test new.stage t p.values)

  pub tests_keep : (new : State) → HasRoom code ranks most m → m.stage ≡ stage.Testing → IsTested new.stage → IsPlain m new → HasRoom code ranks most new
  tests_keep new room e t p = kept_tests new e p room t

  -- ---- a statement begins

  pub lines_keep : (l : LineCode) → IsRoom code ranks most m → m.stage ≡ stage.Between → slice_get (unit_code code m.frame.unit).lines m.frame.line ≡ Some l
      → HasRoom code ranks most (line_begun l m)
  lines_keep l r e at =
      let have = at_stage code ranks most m stage.Between e r.room in
      let v : length m.values.items ≤ m.frame.floor = have.2 in
      let k : l.stop - l.start ≤ (rank_at ranks m.frame.unit).long = r.ranked.long m.frame.unit m.frame.line l at in (
        record {
          needs = have.0.needs;
          callers = have.0.callers;
          extents = have.0.extents;
          small = have.0.small;
          most = have.0.most;
          extents_within = have.0.extents_within;
          values_within = have.0.values_within;
        },
        have.1,
        omega arith,
      )
