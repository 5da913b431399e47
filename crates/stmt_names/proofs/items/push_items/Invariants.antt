use Rattle.std.proofs.Common.{◌≡◌, ◌++◌, take}
use Rattle.stmt_names.proofs.items.push_items.Given as goal

abbrev pub invariant-loop-item : goal.invariant-loop-item
invariant-loop-item l = l.all.items ≡ l.initial.all.items ++ take l.item-index l.items
