use Rattle.std.proofs.Common.{◌≡◌, drop, Some}
use Rattle.run_start.specs.Shapes.{greatest_from}
use Rattle.run_start.proofs.judging.greatest.Given as goal

abbrev pub invariant-loop-size : goal.invariant-loop-size
invariant-loop-size l = greatest_from l.most (drop l.size-index l.sizes) ≡ greatest_from (Some l.fn.most) l.sizes
