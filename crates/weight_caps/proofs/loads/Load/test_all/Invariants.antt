use Rattle.std.proofs.Common.{◌≡◌, drop}
use Rattle.weight_caps.specs.Loads.{with_tests}
use Rattle.weight_caps.proofs.loads.Load.test_all.Given as goal

abbrev pub invariant-loop-weight : goal.invariant-loop-weight
invariant-loop-weight l = with_tests l.self (drop l.weight-index l.weights) ≡ with_tests l.fn.self l.fn.weights
