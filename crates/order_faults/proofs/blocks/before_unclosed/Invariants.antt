use Rattle.std.proofs.Common.{◌≡◌, ◌≤◌, ◌+◌, length, drop}
use Rattle.order_faults.specs.BlockScans.{ends, before_unclosed}
use Rattle.order_faults.proofs.blocks.before_unclosed.Given as goal

abbrev pub invariant-loop-i : goal.invariant-loop-i
invariant-loop-i l = record {
  within : l.i ≤ length l.unit;
  count : ends (drop l.i l.unit) ≡ l.count;
  fits : l.i + l.count ≤ length l.unit;
  found : l.i + before_unclosed (drop l.i l.unit) ≡ l.found;
}

abbrev pub decreases-loop-i : goal.decreases-loop-i
decreases-loop-i l = l.i
