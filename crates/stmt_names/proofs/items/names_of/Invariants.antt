use Rattle.std.proofs.Common.{◌≡◌, ◌++◌, drop}
use Rattle.fort_syntax.specs.Units.{names_of_items}
use Rattle.stmt_names.proofs.items.names_of.Given as goal

abbrev pub invariant-loop-item : goal.invariant-loop-item
invariant-loop-item l = (l.all.items ++ names_of_items (drop l.item-index l.items)) ≡ names_of_items l.items
