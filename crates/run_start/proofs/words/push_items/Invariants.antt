use Rattle.std.proofs.Common.{◌≡◌, ◌++◌, map, drop}
use Rattle.run_start.proofs.words.push_items.Given as goal

abbrev pub invariant-loop-item : goal.invariant-loop-item
invariant-loop-item l = l.all.items ++ map (λ item. item.name) (drop l.item-index l.items) ≡ l.fn.all.items ++ map (λ item. item.name) l.items
