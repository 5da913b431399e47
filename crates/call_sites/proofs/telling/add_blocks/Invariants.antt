use Rattle.std.proofs.Common.{◌≡◌, drop}
use Rattle.call_sites.specs.Books.{with_blocks}
use Rattle.call_sites.proofs.telling.add_blocks.Given as goal

abbrev pub invariant-loop-group : goal.invariant-loop-group
invariant-loop-group l = with_blocks l.set (drop l.group-index l.groups) ≡ with_blocks l.initial.set l.groups
