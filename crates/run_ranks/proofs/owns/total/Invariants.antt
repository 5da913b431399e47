use Rattle.std.proofs.Common.{◌≡◌, drop}
use Rattle.run_ranks.specs.Owns.{total_from}
use Rattle.run_ranks.proofs.owns.total.Given as goal

abbrev pub invariant-loop-size : goal.invariant-loop-size
invariant-loop-size l = total_from l.sum (drop l.size-index l.sizes) ≡ total_from 0 l.sizes
