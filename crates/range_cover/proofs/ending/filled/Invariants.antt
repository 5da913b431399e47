use Rattle.std.proofs.Common.{◌≡◌, replicate}
use Rattle.range_cover.proofs.ending.filled.Given as goal

abbrev pub invariant-loop : goal.invariant-loop
invariant-loop l = l.all.items ≡ replicate l.counter l.value
