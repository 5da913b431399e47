use Rattle.std.proofs.Common.{◌≡◌, drop, Some}
use Rattle.run_start.specs.Shapes.{sum_from}
use Rattle.run_start.proofs.judging.sum.Given as goal

abbrev pub invariant-loop-size : goal.invariant-loop-size
invariant-loop-size l = sum_from l.sum (drop l.size-index l.sizes) ≡ sum_from (Some 0) l.sizes
