use Rattle.std.proofs.Common.{◌≡◌, drop}
use Rattle.std.specs.Prelude.{◌&&◌}
use Rattle.std.specs.List.{list_all}
use Rattle.unit_scope.specs.Scoping.{scope_by}
use Rattle.type_faults.specs.Parts.{test_by, holds}
use Rattle.type_faults.proofs.fitting.+fit.Given as goal

abbrev pub invariant-args_fit-loop-e : goal.invariant-args_fit-loop-e
invariant-args_fit-loop-e l =
    (l.all && list_all (holds (test_by l.check (scope_by l.scope))) (drop l.e-index l.args))
    ≡ (l.fn.ok && list_all (holds (test_by l.check (scope_by l.scope))) l.args)
