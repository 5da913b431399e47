use Rattle.std.proofs.Common.{◌+◌, reverse}
use Rattle.std.specs.BinaryHeap.{IsHeap, heap_items, heap_len}
use Rattle.std.specs.Ordering.{nat_cmp}
use Rattle.formula.proofs.Reached.{Walk, weight}
use Rattle.formula.proofs.order.descending.Given as goal

abbrev pub invariant-loop-place : goal.invariant-loop-place
invariant-loop-place l = record {
  walk : Walk l.pool l.fn.id (reverse l.found.items) (heap_items l.waiting) l.least;
  heap : IsHeap nat_cmp (heap_items l.waiting);
}

abbrev pub decreases-loop-place : goal.decreases-loop-place
decreases-loop-place l = heap_len l.waiting + weight l.pool l.least
