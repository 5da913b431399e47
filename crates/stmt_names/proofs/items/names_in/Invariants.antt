use Rattle.std.proofs.Common.{◌≡◌, ◌++◌, drop}
use Rattle.fort_syntax.specs.Units.{names_in_item}
use Rattle.std.specs.Prelude.{flat_map}
use Rattle.stmt_names.proofs.items.names_in.Given as goal

abbrev pub invariant-loop-item : goal.invariant-loop-item
invariant-loop-item l = (l.all.items ++ flat_map names_in_item (drop l.item-index l.items)) ≡ flat_map names_in_item l.items
