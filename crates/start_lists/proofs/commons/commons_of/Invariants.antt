use Rattle.std.proofs.Common.{◌≡◌, ◌++◌, drop}
use Rattle.fort_syntax.specs.Names.{commons, items_of}
use Rattle.start_lists.proofs.commons.commons_of.Given as goal

abbrev pub invariant-loop-group : goal.invariant-loop-group
invariant-loop-group l = l.names.items ++ items_of (drop l.group-index l.blocks) ≡ commons l.unit
