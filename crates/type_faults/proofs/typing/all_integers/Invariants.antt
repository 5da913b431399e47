use Rattle.std.proofs.Common.{◌≡◌, drop}
use Rattle.std.specs.List.{list_all}
use Rattle.fort_syntax.specs.TypeRules.{gives_integer}
use Rattle.unit_scope.specs.Scoping.{scope_by}
use Rattle.type_faults.proofs.typing.all_integers.Given as goal

abbrev pub invariant-loop-e : goal.invariant-loop-e
invariant-loop-e l = list_all (gives_integer (scope_by l.scope)) (drop l.e-index l.args) ≡ list_all (gives_integer (scope_by l.scope)) l.args
