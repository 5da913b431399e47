use Rattle.std.proofs.Common.{◌≡◌, ◌+◌, ◌<◌, ◌++◌, ℕ, map, drop, length, get_or, IsPermutation, arith, subst}
use Rattle.std.specs.BinaryHeap.{heap_items, heap_len}
use Rattle.formula.specs.declared.node.TermId.{TermId}
use Rattle.formula.proofs.Reached.{next_waits, wait-step}
use Rattle.formula.proofs.order.wait.Goals as goal

pub loop-id-preserved : goal.loop-id-preserved
loop-id-preserved c =
    let ids = c.args.ids.now in
    let i = c.loop-id.id-index in
    let all = heap_items c.args.waiting.now ++ map (λ (a : TermId). a.place) ids in
    let within : i < length ids = omega arith in
    let place : ℕ = (get_or ids i (record { place = 0 })).place in
    let pushed : heap_len c.push.new.self ≡ heap_len c.loop-id.waiting + 1 = c.in-Ok.ensures.len in
    record {
      moved =
          wait-step all (heap_items c.loop-id.waiting) (heap_items c.push.new.self) (map (λ (a : TermId). a.place) (drop (i + 1) ids)) place
          (subst (λ l. IsPermutation all (heap_items c.loop-id.waiting ++ l)) (next_waits ids i (record { place = 0 }) within) c.loop-id.invariant.moved)
          c.in-Ok.ensures.permutation;
      count = omega arith;
      heap = λ h. c.in-Ok.ensures.heap_order (c.loop-id.invariant.heap h);
    }
