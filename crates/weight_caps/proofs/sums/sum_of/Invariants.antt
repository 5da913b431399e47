use Rattle.std.proofs.Common.{◌≡◌, take}
use Rattle.std.specs.Prelude.{sum}
use Rattle.weight_caps.specs.Capped.{capped}
use Rattle.weight_caps.proofs.sums.sum_of.Given as goal

abbrev pub invariant-loop-weight : goal.invariant-loop-weight
invariant-loop-weight l = l.all ≡ capped (sum (take l.weight-index l.weights))
