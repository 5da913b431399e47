use Rattle.std.proofs.Common.{◌≡◌, drop}
use Rattle.std.specs.List.{list_all}
use Rattle.fort_syntax.specs.TypeRules.{is_plain_subscript}
use Rattle.unit_scope.specs.Scoping.{scope_by}
use Rattle.type_faults.proofs.subscripts.are_plain.Given as goal

abbrev pub invariant-loop-e : goal.invariant-loop-e
invariant-loop-e l = list_all (is_plain_subscript (scope_by l.scope)) (drop l.e-index l.args) ≡ list_all (is_plain_subscript (scope_by l.scope)) l.args
