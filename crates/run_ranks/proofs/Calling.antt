-- There is room for a call, and it keeps the room.
use Rattle.std.proofs.Common.{◌≡◌, ℕ, suc, ◌+◌, ◌*◌, ◌-◌, ◌<◌, ◌≤◌, Bool, List, [], ◌++◌, length, take, Option, Some, None, IfSome, slice_get, refl, sym, ap, subst, arith, length-append}
use Rattle.formula.specs.declared.value.Cell.{Cell}
use Rattle.run_shapes.specs.declared.unit_code.CallCode.{CallCode}
use Rattle.run_shapes.specs.declared.unit_code.Code.{Code}
use Rattle.run_shapes.specs.declared.unit_code.UnitCode.{UnitCode}
use Rattle.run_state.specs.Settings.{copies_by}
use Rattle.run_state.specs.Deeds.{advanced, newest_in}
use Rattle.run_state.specs.Obeyed.{AreWithin}
use Rattle.run_state.specs.Shows.{unit_code}
use Rattle.run_state.specs.declared.machine.Extent.{Extent}
use Rattle.run_state.specs.declared.machine.Item.{Item}
use Rattle.run_state.specs.declared.machine.Setting.{Setting}
use Rattle.run_state.specs.declared.machine.Stage.TheVariants as stage
use Rattle.run_state.specs.declared.machine.State.{State}
use Rattle.run_calls.specs.Calls.{all_cells, handed_all, put_off, called_at, called_of, referred, IsReadyFor}
use Rattle.run_calls.proofs.Closed.{laid, seats_in, news_in, handed_closed}
use Rattle.run_ranks.specs.Needs.{cells_need, rank_at, IsRankedCall}
use Rattle.run_ranks.specs.Room.{HasRoom, HasRoomIn, rooms_of}
use Rattle.run_ranks.specs.Laws.{IsRoom}
use Rattle.run_ranks.specs.declared.ranks.Ranks.{Ranks}
use Rattle.run_ranks.proofs.Within.{sum_times, newest_long, newest_within, cells_within, seats_long, seats_within, news_less, extents_more}
use Rattle.run_ranks.proofs.Plain.{at_stage}

module _ (code : Code) (ranks : Ranks) (most place : ℕ) (m : State) (r : IsRoom code ranks most m) (e : m.stage ≡ stage.Inside) (h : m.frame.place < m.frame.stop) where
  have : HasRoomIn stage.Inside code ranks (rooms_of most m) m
  have = at_stage code ranks most m stage.Inside e r.room

  module _ (call : CallCode) (p : IsRankedCall code ranks m.frame.unit call) where
    abbrev passed : List Item
    passed = newest_in call.actuals m.values.items []

    counted : length passed ≡ (unit_code code p.unit).slots.dummies
    counted = let a : length (newest_in call.actuals m.values.items []) ≡ call.actuals + 0 = newest_long call.actuals m.values.items [] in let b = p.counted in omega arith

    within : AreWithin most passed
    within = newest_within most call.actuals m.values.items [] have.0.most have.0.values_within tt

    cells_few : all_cells passed ≤ (unit_code code p.unit).slots.dummies * most
    cells_few =
        let a : all_cells passed ≤ length passed * most = cells_within most passed within in
        let b : length passed * most ≡ (unit_code code p.unit).slots.dummies * most = ap (λ k. k * most) counted in
        omega arith

    room_passed : length m.cells.items + all_cells passed + cells_need most (rank_at ranks p.unit) ≤ m.cells.room
    room_passed =
        let a : all_cells passed ≤ (unit_code code p.unit).slots.dummies * most = cells_few in
        let b : (unit_code code p.unit).slots.dummies * most + (rank_at ranks p.unit).copies * most ≤ (rank_at ranks m.frame.unit).copies * most =
        sum_times (unit_code code p.unit).slots.dummies (rank_at ranks p.unit).copies (rank_at ranks m.frame.unit).copies most p.holds.copies in
        let c : (rank_at ranks m.frame.unit).cells + (rank_at ranks p.unit).plain ≤ (rank_at ranks m.frame.unit).plain = p.holds.plain in
        let d : length m.cells.items ≤ m.frame.before + (rank_at ranks m.frame.unit).cells = have.1.some in
        let f : m.frame.before + ((rank_at ranks m.frame.unit).plain + (rank_at ranks m.frame.unit).copies * most) ≤ m.cells.room = have.1.all in
        let g : length m.cells.items + all_cells passed + ((rank_at ranks p.unit).plain + (rank_at ranks p.unit).copies * most) ≤ m.cells.room = omega arith in
        g

    names_room : length m.extents.items + (rank_at ranks p.unit).names ≤ m.extents.room
    names_room =
        let a : length m.extents.items ≤ m.frame.extents + (rank_at ranks m.frame.unit).slots = have.0.extents in
        let b : m.frame.extents + (rank_at ranks m.frame.unit).names ≤ m.extents.room = have.0.needs.names in
        let c : (rank_at ranks m.frame.unit).slots + (rank_at ranks p.unit).names ≤ (rank_at ranks m.frame.unit).names = p.holds.names in
        omega arith

    frames_room : suc (length m.callers.items) + (rank_at ranks p.unit).frames ≤ m.callers.room
    frames_room =
        let a : suc (rank_at ranks p.unit).frames ≤ (rank_at ranks m.frame.unit).frames = p.holds.frames in
        let b : length m.callers.items + (rank_at ranks m.frame.unit).frames ≤ m.callers.room = have.0.needs.frames in
        omega arith

    is_ready : IsReadyFor (advanced m) call
    is_ready =
        let a : length (newest_in call.actuals m.values.items []) ≡ (unit_code code p.unit).slots.dummies = counted in
        let b : (unit_code code p.unit).slots.dummies + length (rank_at ranks p.unit).own + length (unit_code code p.unit).shared ≡ (rank_at ranks p.unit).slots = r.ranked.slots p.unit in
        let c : (rank_at ranks p.unit).slots ≤ (rank_at ranks p.unit).names = r.ranked.names p.unit in
        let d : length m.extents.items + (rank_at ranks p.unit).names ≤ m.extents.room = names_room in
        let f : length m.cells.items + all_cells (newest_in call.actuals m.values.items []) + ((rank_at ranks p.unit).plain + (rank_at ranks p.unit).copies * most) ≤ m.cells.room = room_passed in
        let g : suc (length m.callers.items) + (rank_at ranks p.unit).frames ≤ m.callers.room = frames_room in
        record { actuals = record { extents = omega arith; cells = omega arith }; frames = omega arith }

    module _ (copies : ℕ → Bool) where
      abbrev seats : List Extent
      seats = seats_in copies 1 passed (length m.cells.items)

      abbrev news : List Cell
      news = news_in copies 1 passed (take (length m.cells.items) m.cells.items)

      abbrev entry : State
      entry = put_off call.number call.actuals p.unit (advanced m) (laid (m.extents.items ++ seats) (m.cells.items ++ news) (advanced m))

      entry_kept : HasRoom code ranks most entry
      entry_kept =
          let es = seats_in copies 1 passed (length m.cells.items) in
          let cs = news_in copies 1 passed (take (length m.cells.items) m.cells.items) in
          let a : length es ≡ length passed = seats_long copies 1 passed (length m.cells.items) in
          let b : length passed ≡ (unit_code code p.unit).slots.dummies = counted in
          let c : length (m.extents.items ++ es) ≡ length m.extents.items + length es = length-append m.extents.items es in
          let d : length cs ≤ all_cells passed = news_less copies 1 passed (take (length m.cells.items) m.cells.items) in
          let f : length (m.cells.items ++ cs) ≡ length m.cells.items + length cs = length-append m.cells.items cs in
          let g : length m.cells.items + all_cells passed + ((rank_at ranks p.unit).plain + (rank_at ranks p.unit).copies * most) ≤ m.cells.room = room_passed in
          let k : length m.values.items + (m.frame.stop - m.frame.place) ≤ m.frame.floor + (rank_at ranks m.frame.unit).long = have.2 in
          let v : (rank_at ranks m.frame.unit).long + (rank_at ranks p.unit).values ≤ (rank_at ranks m.frame.unit).values = p.holds.values in
          let w : m.frame.floor + (rank_at ranks m.frame.unit).values ≤ m.values.room = have.0.needs.values in (
            record {
              needs = record { frames = frames_room; values = omega arith; names = names_room };
              callers = (record { needs = have.0.needs; cells = have.1; height = omega arith; extents = have.0.extents }, have.0.callers);
              extents = omega arith;
              small = have.0.small;
              most = have.0.most;
              extents_within = extents_more most m.extents.items es have.0.extents_within (seats_within most copies 1 passed (length m.cells.items) have.0.most within);
              values_within = have.0.values_within;
            },
            omega arith,
          )

    handed_over : (copies : ℕ → Bool)
        → HasRoom code ranks most (put_off call.number call.actuals p.unit (advanced m) (handed_all copies 1 (length m.cells.items) (newest_in call.actuals m.values.items []) (advanced m)))
    handed_over copies =
        subst (λ x. HasRoom code ranks most (put_off call.number call.actuals p.unit (advanced m) x))
        (sym (handed_closed copies 1 (length m.cells.items) (newest_in call.actuals m.values.items []) (advanced m) (omega arith))) (entry_kept copies)

    called_there : (setting : Setting) (unit : UnitCode) (o : Option UnitCode) → HasRoom code ranks most (called_at setting unit call p.unit o (advanced m))
    called_there setting unit None = tt
    called_there setting unit (Some g) = handed_over (copies_by setting.passing unit.name call.number)

  ready_at : (o : Option CallCode) → slice_get (unit_code code m.frame.unit).calls place ≡ o → IfSome o (IsReadyFor (advanced m))
  ready_at None at = tt
  ready_at (Some call) at = is_ready call (r.ranked.calls m.frame.unit place call at)

  keeps_at : (setting : Setting) (o : Option CallCode) → slice_get (unit_code code m.frame.unit).calls place ≡ o
      → HasRoom code ranks most (referred code setting (unit_code code m.frame.unit) o (advanced m))
  keeps_at setting None at = tt
  keeps_at setting (Some call) at =
      let p = r.ranked.calls m.frame.unit place call at in
      let unit = unit_code code m.frame.unit in
      subst (λ o. HasRoom code ranks most (called_of code setting unit call o (advanced m))) (sym p.callee_is) (called_there call p setting unit (slice_get code.units p.unit))

pub ready : (code : Code) (ranks : Ranks) (most place : ℕ) (m : State) → IsRoom code ranks most m → m.stage ≡ stage.Inside → m.frame.place < m.frame.stop
    → IfSome (slice_get (unit_code code m.frame.unit).calls place) (IsReadyFor (advanced m))
ready code ranks most place m r e h = ready_at code ranks most place m r e h (slice_get (unit_code code m.frame.unit).calls place) refl

pub keeps : (code : Code) (setting : Setting) (ranks : Ranks) (most place : ℕ) (m : State) → IsRoom code ranks most m → m.stage ≡ stage.Inside → m.frame.place < m.frame.stop
    → HasRoom code ranks most (referred code setting (unit_code code m.frame.unit) (slice_get (unit_code code m.frame.unit).calls place) (advanced m))
keeps code setting ranks most place m r e h = keeps_at code ranks most place m r e h setting (slice_get (unit_code code m.frame.unit).calls place) refl
