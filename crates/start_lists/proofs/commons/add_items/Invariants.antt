use Rattle.std.proofs.Common.{◌≡◌, ◌++◌, drop, map}
use Rattle.fort_syntax.specs.declared.name.Name.{Name}
use Rattle.start_lists.proofs.commons.add_items.Given as goal

abbrev pub invariant-loop-item : goal.invariant-loop-item
invariant-loop-item l = l.names.items ++ map (λ item. item.name) (drop l.item-index l.items) ≡ l.fn.names.items ++ map (λ item. item.name) l.items
