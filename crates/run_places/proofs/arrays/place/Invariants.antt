use Rattle.std.proofs.Common.{◌≡◌, ◌+◌, ◌-◌}
use Rattle.run_places.specs.Arrays.{place_to, place_by, subscripts_of, dims_in}
use Rattle.run_places.proofs.arrays.place.Given as goal

abbrev pub invariant-loop-at : goal.invariant-loop-at
invariant-loop-at l = place_to (subscripts_of l.m (l.count - l.at)) (dims_in l.m l.slots (l.shape.first + l.at) (l.shape.rank - l.at)) l.place ≡ place_by l.m l.slots l.shape l.count

abbrev pub decreases-loop-at : goal.decreases-loop-at
decreases-loop-at l = l.count - l.at
