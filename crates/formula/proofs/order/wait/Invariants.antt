use Rattle.std.proofs.Common.{◌≡◌, ◌+◌, ◌++◌, map, drop, IsPermutation}
use Rattle.std.specs.BinaryHeap.{IsHeap, heap_items, heap_len}
use Rattle.std.specs.Ordering.{nat_cmp}
use Rattle.formula.specs.declared.node.TermId.{TermId}
use Rattle.formula.proofs.order.wait.Given as goal

abbrev pub invariant-loop-id : goal.invariant-loop-id
invariant-loop-id l = record {
  moved : IsPermutation (heap_items l.initial.waiting ++ map (λ (a : TermId). a.place) l.ids) (heap_items l.waiting ++ map (λ (a : TermId). a.place) (drop l.id-index l.ids));
  count : heap_len l.waiting ≡ heap_len l.initial.waiting + l.id-index;
  heap : IsHeap nat_cmp (heap_items l.initial.waiting) → IsHeap nat_cmp (heap_items l.waiting);
}
