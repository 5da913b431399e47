use Rattle.std.proofs.Common.{◌≡◌, ◌++◌, drop}
use Rattle.fort_syntax.specs.Units.{names_of_items}
use Rattle.decl_faults.proofs.common_table.push_names.Given as goal

abbrev pub invariant-loop-item : goal.invariant-loop-item
invariant-loop-item l = (l.all.items ++ names_of_items (drop l.item-index l.items)) ≡ (l.initial.all.items ++ names_of_items l.items)
