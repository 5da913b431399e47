use Rattle.std.proofs.Common.{◌≡◌, ◌+◌, [], drop}
use Rattle.order_faults.specs.BlockScans.{before_misplaced}
use Rattle.order_faults.proofs.blocks.before_misplaced.Given as goal

abbrev pub invariant-loop-i : goal.invariant-loop-i
invariant-loop-i l = before_misplaced [] l.unit ≡ l.i + before_misplaced l.blocks (drop l.i l.unit)
