use Rattle.std.proofs.Common.{length}
use Rattle.walk_places.proofs.elements.+place_from.Given as goal

abbrev pub decreases-place_from : goal.decreases-place_from
decreases-place_from l = length l.left.now.dims.now
