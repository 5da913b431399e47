use Rattle.std.proofs.Common.{length}
use Rattle.walk_places.proofs.dims.+stretch_from.Given as goal

abbrev pub decreases-stretch_from : goal.decreases-stretch_from
decreases-stretch_from l = length l.dims.now
