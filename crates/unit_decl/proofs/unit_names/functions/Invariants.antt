use Rattle.std.proofs.Common.{◌≡◌, ◌++◌, drop}
use Rattle.unit_scope.specs.Scoping.{scope_by}
use Rattle.unit_decl.specs.UnitParts.{functions_in}
use Rattle.unit_decl.proofs.unit_names.functions.Given as goal

abbrev pub invariant-loop-name : goal.invariant-loop-name
invariant-loop-name l = (l.all.items ++ functions_in (scope_by l.scope) (drop l.name-index l.names)) ≡ functions_in (scope_by l.scope) l.names
