use Rattle.std.proofs.Common.{◌≡◌, ◌++◌, drop}
use Rattle.loop_tables.proofs.FromBehind.{before}
use Rattle.loop_tables.proofs.loops.points_before.Given as goal

abbrev pub invariant-loop-at : goal.invariant-loop-at
invariant-loop-at l = (l.found.items ++ before l.point (drop l.at-index l.points)) ≡ before l.point l.points
