use Rattle.std.proofs.Common.{◌≡◌, ◌++◌, drop}
use Rattle.do_ranges.specs.Ends.{block_end, ends_from, block_ends}
use Rattle.do_ranges.proofs.ends.block_ends.Given as goal

abbrev pub invariant-loop-at : goal.invariant-loop-at
invariant-loop-at l = l.ends.items ++ ends_from (block_end l.unit) l.at (drop l.at l.unit.lines) ≡ block_ends l.unit
