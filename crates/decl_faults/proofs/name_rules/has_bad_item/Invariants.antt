use Rattle.std.proofs.Common.{◌≡◌, drop}
use Rattle.std.specs.List.{list_any}
use Rattle.formula.specs.Atoms.{is_among}
use Rattle.unit_scope.specs.Scoping.{scope_by}
use Rattle.decl_faults.specs.NameScans.{is_bad_item}
use Rattle.decl_faults.proofs.name_rules.has_bad_item.Given as goal

abbrev pub invariant-loop-item : goal.invariant-loop-item
invariant-loop-item l = list_any (is_bad_item (λ x. is_among x l.dummies) (scope_by l.scope)) (drop l.item-index l.items) ≡ list_any (is_bad_item (λ x. is_among x l.dummies) (scope_by l.scope)) l.items
