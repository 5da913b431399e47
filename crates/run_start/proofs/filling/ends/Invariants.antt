use Rattle.std.proofs.Common.{◌≡◌, ◌++◌, drop}
use Rattle.run_start.specs.Filled.{ends_from}
use Rattle.run_start.proofs.filling.ends.Given as goal

abbrev pub invariant-loop-size : goal.invariant-loop-size
invariant-loop-size l = l.ends.items ++ ends_from l.first (drop l.size-index l.sizes) ≡ ends_from 0 l.sizes
