use Rattle.std.proofs.Common.{◌≡◌, length}
use Rattle.fort_syntax.specs.Units.{segments}
use Rattle.order_faults.specs.BlockScans.{block_scans}
use Rattle.order_faults.proofs.deck_order.block_scans.Given as goal

abbrev pub invariant-loop-rest : goal.invariant-loop-rest
invariant-loop-rest l = block_scans (segments l.rest) ≡ block_scans (segments l.lines)

abbrev pub decreases-loop-rest : goal.decreases-loop-rest
decreases-loop-rest l = length l.rest
