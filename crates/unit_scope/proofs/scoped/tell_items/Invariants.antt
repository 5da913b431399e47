use Rattle.std.proofs.Common.{◌≡◌, drop}
use Rattle.unit_scope.specs.Tellings.{typed_items}
use Rattle.unit_scope.proofs.scoped.tell_items.Given as goal

abbrev pub invariant-loop-item : goal.invariant-loop-item
invariant-loop-item l = typed_items l.sort l.table (drop l.item-index l.items) ≡ typed_items l.sort l.initial.table l.items
