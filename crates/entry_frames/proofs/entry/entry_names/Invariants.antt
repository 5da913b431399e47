use Rattle.std.proofs.Common.{drop, length, ◌≤◌}
use Rattle.entry_frames.specs.Entries.{IsEntered}
use Rattle.entry_frames.proofs.entry.entry_names.Given as goal

abbrev pub invariant-loop-left : goal.invariant-loop-left
invariant-loop-left l = record {
  within : l.left ≤ length l.entities;
  entered : IsEntered l.fn.pool l.fn.names l.pool l.names (drop l.left l.entities);
}

abbrev pub decreases-loop-left : goal.decreases-loop-left
decreases-loop-left l = l.left
