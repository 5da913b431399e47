-- There is room to leave a unit, and leaving keeps the room.
use Rattle.std.proofs.Common.{◌≡◌, ◌≢◌, ℕ, suc, ◌+◌, ◌*◌, ◌-◌, ◌<◌, ◌≤◌, ◌^◌, List, [], ◌∷◌, length, take, Option, Some, None, slice_get, refl, sym, subst, arith}
use Rattle.formula.specs.declared.value.Cell.{Cell}
use Rattle.run_rooms.specs.Roomy.{oldest}
use Rattle.run_shapes.specs.declared.unit_code.Code.{Code}
use Rattle.run_shapes.specs.declared.unit_code.UnitCode.{UnitCode}
use Rattle.run_state.specs.Deeds.{newest_in, under_in}
use Rattle.run_state.specs.Shows.{unit_code}
use Rattle.run_state.specs.declared.machine.Frame.{Frame}
use Rattle.run_state.specs.declared.machine.Item.{Item}
use Rattle.run_state.specs.declared.machine.Setting.{Setting}
use Rattle.run_state.specs.declared.machine.Stage.TheVariants as stage
use Rattle.run_state.specs.declared.machine.State.{State}
use Rattle.run_calls.specs.Calls.{back_in, cleared, copies_in, left, left_by, popped, restored, returned, value_at}
use Rattle.run_calls.specs.Laws.{IsNear}
use Rattle.run_calls.proofs.Closed.{backs_in, back_closed}
use Rattle.run_ranks.specs.Needs.{rank_at}
use Rattle.run_ranks.specs.Room.{AreRoomy, HasRoom, HasRoomIn, rooms_of}
use Rattle.run_ranks.specs.Laws.{IsReadyToLeave, IsRoom}
use Rattle.run_ranks.specs.declared.ranks.Ranks.{Ranks}
use Rattle.run_ranks.proofs.Within.{take_short, oldest_short, under_less, oldest_within, under_within, extents_taken}
use Rattle.run_ranks.proofs.Plain.{at_stage}

-- ---- room to leave

module _ (code : Code) (ranks : Ranks) (most : ℕ) (m : State) (r : IsRoom code ranks most m) (e : m.stage ≡ stage.Between) where
  have_room : HasRoomIn stage.Between code ranks (rooms_of most m) m
  have_room = at_stage code ranks most m stage.Between e r.room

  few_cells : length m.cells.items < 2 ^ 64
  few_cells =
      let a : length m.cells.items ≤ m.frame.before + (rank_at ranks m.frame.unit).cells = have_room.1.some in
      let b : (rank_at ranks m.frame.unit).cells ≤ (rank_at ranks m.frame.unit).plain = r.ranked.plain m.frame.unit in
      let c : m.frame.before + ((rank_at ranks m.frame.unit).plain + (rank_at ranks m.frame.unit).copies * most) ≤ m.cells.room = have_room.1.all in
      let d : m.cells.room < 2 ^ 64 = have_room.0.small in
      omega arith

  floor_room : (fs : List Frame) → AreRoomy ranks (rooms_of most m) m.frame.floor m.frame.extents fs → fs ≢ [] → m.frame.floor < m.values.room
  floor_room [] a some = absurd (some refl)
  floor_room (f ∷ fs) a some =
      let h : suc m.frame.floor + (f.stop - f.place) ≤ f.floor + (rank_at ranks f.unit).long = a.0.height in
      let b : (rank_at ranks f.unit).long ≤ (rank_at ranks f.unit).values = r.ranked.values f.unit in
      let c : f.floor + (rank_at ranks f.unit).values ≤ m.values.room = a.0.needs.values in
      omega arith

  near : (fs : List Frame) → AreRoomy ranks (rooms_of most m) m.frame.floor m.frame.extents fs → IsNear fs
  near [] a = tt
  near (f ∷ fs) a =
      let h : f.base ≤ f.before + (rank_at ranks f.unit).cells = a.0.cells.some in
      let b : (rank_at ranks f.unit).cells ≤ (rank_at ranks f.unit).plain = r.ranked.plain f.unit in
      let c : f.before + ((rank_at ranks f.unit).plain + (rank_at ranks f.unit).copies * most) ≤ m.cells.room = a.0.cells.all in
      let d : m.cells.room < 2 ^ 64 = have_room.0.small in
      omega arith

  pub ready : IsReadyToLeave m
  ready = record { value = floor_room m.callers.items have_room.0.callers; cells = few_cells; base = near m.callers.items have_room.0.callers }

-- ---- the room of the caller

module _ (code : Code) (setting : Setting) (ranks : Ranks) (most : ℕ) (m : State) (room : HasRoom code ranks most m) (e : m.stage ≡ stage.Between) where
  have : HasRoomIn stage.Between code ranks (rooms_of most m) m
  have = at_stage code ranks most m stage.Between e room

  module _ (f : Frame) (fs : List Frame) (a : AreRoomy ranks (rooms_of most m) m.frame.floor m.frame.extents (f ∷ fs)) (v : Cell) where
    abbrev gone : State
    gone = popped fs (cleared m)

    -- whatever the cells are then
    back_room : (cs : List Cell) → HasRoom code ranks most (back_in f v (record gone { cells = record gone.cells { items = cs } }))
    back_room cs =
        let vs : List Item = oldest m.frame.floor m.values.items in
        let l : length vs ≤ m.frame.floor = oldest_short m.frame.floor m.values.items in
        let u : length (under_in f.actuals vs) ≤ length vs = under_less f.actuals vs in
        let h : suc m.frame.floor + (f.stop - f.place) ≤ f.floor + (rank_at ranks f.unit).long = a.0.height in
        let t : length (take m.frame.extents m.extents.items) ≤ m.frame.extents = take_short m.frame.extents m.extents.items in
        let x : m.frame.extents ≤ f.extents + (rank_at ranks f.unit).slots = a.0.extents in
        let c : length (take f.base cs) ≤ f.base = take_short f.base cs in
        let b : f.base ≤ f.before + (rank_at ranks f.unit).cells = a.0.cells.some in (
          record {
            needs = a.0.needs;
            callers = a.1;
            extents = omega arith;
            small = have.0.small;
            most = have.0.most;
            extents_within = extents_taken most m.frame.extents m.extents.items have.0.extents_within;
            values_within = (have.0.most, under_within most f.actuals vs (oldest_within most m.frame.floor m.values.items have.0.values_within));
          },
          record { some = omega arith; all = a.0.cells.all },
          omega arith,
        )

    given_back : (unit : UnitCode) → HasRoom code ranks most (back_in f v (restored setting unit f gone))
    given_back unit =
        let xs : List Item = newest_in f.actuals gone.values.items [] in
        subst (λ x. HasRoom code ranks most (back_in f v x)) (sym (back_closed (copies_in setting unit f.number) 1 f.base xs gone)) (back_room (backs_in (copies_in setting unit f.number) 1 f.base xs gone.cells.items))

    returns_room : (o : Option UnitCode) → HasRoom code ranks most (returned setting o f v gone)
    returns_room None = tt
    returns_room (Some unit) = given_back unit

  left_room : (fs : List Frame) → AreRoomy ranks (rooms_of most m) m.frame.floor m.frame.extents fs → (v : Cell) → HasRoom code ranks most (left_by code setting fs v (cleared m))
  left_room [] a v = tt
  left_room (f ∷ fs) a v = returns_room f fs a v (slice_get code.units f.unit)

  kept : HasRoom code ranks most (left code setting (unit_code code m.frame.unit) m)
  kept = left_room m.callers.items have.0.callers (value_at (unit_code code m.frame.unit) m)

pub keeps : (code : Code) (setting : Setting) (ranks : Ranks) (most : ℕ) (m : State) → HasRoom code ranks most m → m.stage ≡ stage.Between
    → HasRoom code ranks most (left code setting (unit_code code m.frame.unit) m)
keeps code setting ranks most m room e = kept code setting ranks most m room e
