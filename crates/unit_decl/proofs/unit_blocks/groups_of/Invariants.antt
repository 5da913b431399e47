use Rattle.std.proofs.Common.{◌≡◌, ◌++◌, drop}
use Rattle.std.specs.Prelude.{map}
use Rattle.unit_scope.specs.Scoping.{scope_by}
use Rattle.unit_decl.specs.UnitParts.{group_in}
use Rattle.unit_decl.proofs.unit_blocks.groups_of.Given as goal

abbrev pub invariant-loop-key : goal.invariant-loop-key
invariant-loop-key l = (l.all.items ++ map (group_in (scope_by l.scope) l.table) (drop l.key-index l.keys)) ≡ map (group_in (scope_by l.scope) l.table) l.keys
