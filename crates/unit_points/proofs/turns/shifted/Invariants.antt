use Rattle.std.proofs.Common.{◌≡◌, ◌++◌, drop}
use Rattle.unit_points.proofs.turns.shifted.Given as goal

abbrev pub invariant-loop-at : goal.invariant-loop-at
invariant-loop-at l = l.rest.items ++ drop l.at l.points ≡ drop 1 l.points
