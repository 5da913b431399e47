use Rattle.std.proofs.Common.{◌≡◌, ◌++◌, drop}
use Rattle.std.specs.Prelude.{map}
use Rattle.fort_syntax.specs.NameRules.{member_of}
use Rattle.unit_scope.specs.Scoping.{scope_by}
use Rattle.unit_scope.proofs.members.members_of.Given as goal

abbrev pub invariant-loop-name : goal.invariant-loop-name
invariant-loop-name l = (l.all.items ++ map (member_of (scope_by l.scope)) (drop l.name-index l.names)) ≡ map (member_of (scope_by l.scope)) l.names
