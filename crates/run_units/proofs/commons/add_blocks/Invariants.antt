use Rattle.std.proofs.Common.{◌≡◌, drop}
use Rattle.fort_syntax.specs.Names.{items_of}
use Rattle.name_tables.specs.Sets.{with_names}
use Rattle.run_units.proofs.commons.add_blocks.Given as goal

abbrev pub invariant-loop-group : goal.invariant-loop-group
invariant-loop-group l = with_names l.set (items_of (drop l.group-index l.blocks)) ≡ with_names l.fn.set (items_of l.blocks)
