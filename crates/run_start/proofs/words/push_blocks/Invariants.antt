use Rattle.std.proofs.Common.{◌≡◌, ◌++◌, drop}
use Rattle.fort_syntax.specs.Names.{items_of}
use Rattle.run_start.proofs.words.push_blocks.Given as goal

abbrev pub invariant-loop-group : goal.invariant-loop-group
invariant-loop-group l = l.all.items ++ items_of (drop l.group-index l.blocks) ≡ l.fn.all.items ++ items_of l.blocks
