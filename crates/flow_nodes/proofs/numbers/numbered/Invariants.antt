use Rattle.std.proofs.Common.{◌≡◌, ◌<◌, ◌+◌, length, reverse, All, vec_len}
use Rattle.digraph.specs.Ranks.{ranks_after}
use Rattle.flow_nodes.proofs.numbers.numbered.Given as goal

abbrev pub invariant-loop-point : goal.invariant-loop-point
invariant-loop-point l = record {
  inside : All (λ q. q < l.count) l.order.items;
  long : length l.ranks.items ≡ l.count;
  few : l.rank + length l.order.items < 4294967296;
  run : ranks_after l.ranks.items l.rank (reverse l.order.items) ≡ ranks_after l.initial.ranks.items 0 (reverse l.initial.order.items);
}

abbrev pub decreases-loop-point : goal.decreases-loop-point
decreases-loop-point l = vec_len l.order
