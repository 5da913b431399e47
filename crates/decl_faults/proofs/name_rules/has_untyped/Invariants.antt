use Rattle.std.proofs.Common.{◌≡◌, drop}
use Rattle.decl_faults.specs.NameScans.{has_untyped}
use Rattle.unit_scope.specs.Scoping.{scope_by}
use Rattle.decl_faults.proofs.name_rules.has_untyped.Given as goal

abbrev pub invariant-loop-name : goal.invariant-loop-name
invariant-loop-name l = has_untyped (scope_by l.scope) (drop l.name-index l.names) ≡ has_untyped (scope_by l.scope) l.names
