use Rattle.std.proofs.Common.{◌≡◌, drop}
use Rattle.std.specs.Prelude.{map}
use Rattle.std.specs.List.{list_any}
use Rattle.fort_syntax.specs.NameRules.{member_of, is_adjustable}
use Rattle.unit_scope.specs.Scoping.{scope_by}
use Rattle.unit_scope.proofs.members.has_adjustable.Given as goal

abbrev pub invariant-loop-name : goal.invariant-loop-name
invariant-loop-name l = list_any (λ m. is_adjustable m.dims) (map (member_of (scope_by l.scope)) (drop l.name-index l.names)) ≡ list_any (λ m. is_adjustable m.dims) (map (member_of (scope_by l.scope)) l.names)
