use Rattle.std.proofs.Common.{◌≡◌, drop}
use Rattle.decl_faults.specs.NameScans.{has_bad_shape}
use Rattle.decl_faults.proofs.name_rules.has_bad_shape.Given as goal

abbrev pub invariant-loop-item : goal.invariant-loop-item
invariant-loop-item l = has_bad_shape l.dialect (drop l.item-index l.items) ≡ has_bad_shape l.dialect l.items
