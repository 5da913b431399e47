use Rattle.std.proofs.Common.{◌≡◌, ◌++◌, drop}
use Rattle.std.specs.Prelude.{map}
use Rattle.unit_scope.specs.Scoping.{scope_by}
use Rattle.unit_decl.specs.UnitParts.{item_in}
use Rattle.unit_decl.proofs.unit_blocks.items_of.Given as goal

abbrev pub invariant-loop-name : goal.invariant-loop-name
invariant-loop-name l = (l.all.items ++ map (item_in (scope_by l.scope)) (drop l.name-index l.names)) ≡ map (item_in (scope_by l.scope)) l.names
