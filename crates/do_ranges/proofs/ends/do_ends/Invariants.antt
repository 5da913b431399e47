use Rattle.std.proofs.Common.{◌≡◌, ◌++◌, drop}
use Rattle.do_ranges.specs.Ends.{do_end, ends_from, do_ends}
use Rattle.do_ranges.proofs.ends.do_ends.Given as goal

abbrev pub invariant-loop-at : goal.invariant-loop-at
invariant-loop-at l = l.ends.items ++ ends_from (do_end l.unit) l.at (drop l.at l.unit.lines) ≡ do_ends l.unit
