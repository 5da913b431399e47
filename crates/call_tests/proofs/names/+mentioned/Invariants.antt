use Rattle.std.proofs.Common.{◌≡◌, ◌++◌, drop}
use Rattle.std.specs.Prelude.{flat_map}
use Rattle.call_tests.specs.Mentioned.{names_in}
use Rattle.call_tests.proofs.names.+mentioned.Given as goal

abbrev pub invariant-push_args-loop-e : goal.invariant-push_args-loop-e
invariant-push_args-loop-e l = (l.all.items ++ flat_map names_in (drop l.e-index l.args)) ≡ (l.initial.all.items ++ flat_map names_in l.args)
