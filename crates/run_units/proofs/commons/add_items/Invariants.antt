use Rattle.std.proofs.Common.{◌≡◌, drop, map}
use Rattle.name_tables.specs.Sets.{with_names}
use Rattle.run_units.proofs.commons.add_items.Given as goal

abbrev pub invariant-loop-item : goal.invariant-loop-item
invariant-loop-item l = with_names l.set (map (λ item. item.name) (drop l.item-index l.items)) ≡ with_names l.fn.set (map (λ item. item.name) l.items)
