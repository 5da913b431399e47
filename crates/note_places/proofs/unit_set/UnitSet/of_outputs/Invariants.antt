use Rattle.std.proofs.Common.{◌≤◌, length, drop}
use Rattle.fort_notes.specs.Judging as judging
use Rattle.note_places.specs.Places.{AreUnitsWith}
use Rattle.note_places.proofs.unit_set.UnitSet.of_outputs.Given as goal

-- the units of the notes from `left` on are in the set
abbrev pub invariant-loop-left : goal.invariant-loop-left
invariant-loop-left l = record {
  within : l.left ≤ length l.notes;
  told : AreUnitsWith judging.Output (drop l.left l.notes) l.set;
}

abbrev pub decreases-loop-left : goal.decreases-loop-left
decreases-loop-left l = l.left
