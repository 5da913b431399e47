use Rattle.std.proofs.Common.{◌≡◌, [], map, drop}
use Rattle.call_tests.specs.Mentioned.{names_in}
use Rattle.call_tests.specs.Twice.{twice_after}
use Rattle.call_tests.proofs.twice.named_twice.Given as goal

abbrev pub invariant-loop-e : goal.invariant-loop-e
invariant-loop-e l = twice_after l.before l.again (map names_in (drop l.e-index l.actuals)) ≡ twice_after [] [] (map names_in l.actuals)
