-- There is room to enter a unit, and entering keeps the room.
use Rattle.std.proofs.Common.{◌≡◌, ℕ, ◌+◌, ◌*◌, ◌≤◌, List, ◌++◌, length, map, sum, replicate, sym, ap, ◌∙◌, subst, arith, length-append}
use Rattle.std.proofs.lemmas.List.{length-replicate}
use Rattle.formula.specs.declared.value.Cell.{Cell}
use Rattle.formula.specs.declared.value.Cell.TheVariants.{Undefined}
use Rattle.fort_model.specs.Storage.{side_by_side}
use Rattle.run_shapes.specs.declared.unit_code.Code.{Code}
use Rattle.run_state.specs.Near.{shortened}
use Rattle.run_state.specs.Obeyed.{ExtentsWithin}
use Rattle.run_state.specs.Shows.{unit_code}
use Rattle.run_state.specs.declared.machine.Extent.{Extent}
use Rattle.run_state.specs.declared.machine.Stage.TheVariants as stage
use Rattle.run_state.specs.declared.machine.State.{State}
use Rattle.run_calls.specs.Calls.{begun, entered, shared_all}
use Rattle.run_calls.proofs.Closed.{laid, given_closed, sides_long}
use Rattle.run_ranks.specs.Needs.{rank_at, SizesWithin}
use Rattle.run_ranks.specs.Room.{HasRoom, HasRoomIn, rooms_of}
use Rattle.run_ranks.specs.Laws.{IsReadyToEnter, IsRoom}
use Rattle.run_ranks.specs.declared.ranks.Ranks.{Ranks}
use Rattle.run_ranks.proofs.Within.{extents_more, sides_within, shares_alone, SharesAlone}
use Rattle.run_ranks.proofs.Plain.{at_stage}

module _ (code : Code) (ranks : Ranks) (most : ℕ) (m : State) (r : IsRoom code ranks most m) (e : m.stage ≡ stage.Entering) where
  have : HasRoomIn stage.Entering code ranks (rooms_of most m) m
  have = at_stage code ranks most m stage.Entering e r.room

  pub ready : IsReadyToEnter code ranks m
  ready =
      let a : length m.extents.items ≤ m.frame.extents + (unit_code code m.frame.unit).slots.dummies = have.0.extents in
      let b : (unit_code code m.frame.unit).slots.dummies + length (rank_at ranks m.frame.unit).own + length (unit_code code m.frame.unit).shared ≡ (rank_at ranks m.frame.unit).slots = r.ranked.slots m.frame.unit in
      let c : (rank_at ranks m.frame.unit).slots ≤ (rank_at ranks m.frame.unit).names = r.ranked.names m.frame.unit in
      let d : m.frame.extents + (rank_at ranks m.frame.unit).names ≤ m.extents.room = have.0.needs.names in
      let f : length m.cells.items + ((rank_at ranks m.frame.unit).plain + (rank_at ranks m.frame.unit).copies * most) ≤ m.cells.room = have.1 in
      let g : sum (rank_at ranks m.frame.unit).own ≡ (rank_at ranks m.frame.unit).cells = r.ranked.own m.frame.unit in
      let h : (rank_at ranks m.frame.unit).cells ≤ (rank_at ranks m.frame.unit).plain = r.ranked.plain m.frame.unit in
      record { extents = omega arith; cells = omega arith }

  abbrev sizes : List ℕ
  sizes = (rank_at ranks m.frame.unit).own

  abbrev shared : List ℕ
  shared = (unit_code code m.frame.unit).shared

  abbrev given : State
  given = laid (m.extents.items ++ map shortened (side_by_side sizes (length m.cells.items))) (m.cells.items ++ replicate (sum sizes) Undefined) (begun m)

  laid_room : (small : SizesWithin most sizes) (s : SharesAlone most shared given) → HasRoom code ranks most (laid s.extents given.cells.items given)
  laid_room small s =
      let new : List Extent = map shortened (side_by_side sizes (length m.cells.items)) in
      let cells : List Cell = replicate (sum sizes) Undefined in
      let a : length m.extents.items ≤ m.frame.extents + (unit_code code m.frame.unit).slots.dummies = have.0.extents in
      let b : (unit_code code m.frame.unit).slots.dummies + length sizes + length shared ≡ (rank_at ranks m.frame.unit).slots = r.ranked.slots m.frame.unit in
      let c : length new ≡ length sizes = sides_long sizes (length m.cells.items) in
      let d : length (m.extents.items ++ new) ≡ length m.extents.items + length new = length-append m.extents.items new in
      let f : length s.extents ≡ length (m.extents.items ++ new) + length shared = s.counted in
      let g : length cells ≡ sum sizes = length-replicate (sum sizes) Undefined in
      let h : sum sizes ≡ (rank_at ranks m.frame.unit).cells = r.ranked.own m.frame.unit in
      let k : length (m.cells.items ++ cells) ≡ length m.cells.items + length cells = length-append m.cells.items cells in (
        record {
          needs = have.0.needs;
          callers = have.0.callers;
          extents = omega arith;
          small = have.0.small;
          most = have.0.most;
          extents_within = s.within;
          values_within = have.0.values_within;
        },
        record { some = omega arith; all = have.1 },
        omega arith,
      )

  given_within : SizesWithin most sizes → ExtentsWithin most given.extents.items
  given_within small = extents_more most m.extents.items (map shortened (side_by_side sizes (length m.cells.items))) have.0.extents_within (sides_within most sizes (length m.cells.items) small)

  pub keeps : SizesWithin most sizes → HasRoom code ranks most (entered sizes shared m)
  keeps small =
      let s : SharesAlone most shared given = shares_alone most shared given (given_within small) in
      subst (HasRoom code ranks most) (sym (ap (shared_all shared) (given_closed sizes (begun m)) ∙ s.same)) (laid_room small s)
