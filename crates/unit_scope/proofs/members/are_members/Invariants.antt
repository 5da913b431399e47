use Rattle.std.proofs.Common.{◌≡◌, drop}
use Rattle.std.specs.Prelude.{map}
use Rattle.fort_syntax.specs.NameRules.{member_of, same_members}
use Rattle.unit_scope.specs.Scoping.{scope_by}
use Rattle.unit_scope.proofs.members.are_members.Given as goal

abbrev pub invariant-loop-i : goal.invariant-loop-i
invariant-loop-i l = same_members (map (member_of (scope_by l.scope)) (drop l.i l.names)) (drop l.i l.members) ≡ same_members (map (member_of (scope_by l.scope)) l.names) l.members
