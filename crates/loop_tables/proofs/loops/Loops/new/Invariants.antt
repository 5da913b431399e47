use Rattle.std.proofs.Common.{◌≤◌, length}
use Rattle.loop_tables.specs.Loops.{AreLoopsFrom}
use Rattle.loop_tables.proofs.loops.Loops.new.Given as goal

abbrev pub invariant-loop-left : goal.invariant-loop-left
invariant-loop-left l = record { within : l.left ≤ length l.unit.lines; told : AreLoopsFrom l.unit l.left l.loops.table.items }

abbrev pub decreases-loop-left : goal.decreases-loop-left
decreases-loop-left l = l.left
