use Rattle.std.proofs.Common.{◌≡◌, drop}
use Rattle.unit_scope.specs.Tellings.{shaped}
use Rattle.unit_scope.proofs.scoped.tell_shapes.Given as goal

abbrev pub invariant-loop-item : goal.invariant-loop-item
invariant-loop-item l = shaped l.table (drop l.item-index l.items) ≡ shaped l.initial.table l.items
