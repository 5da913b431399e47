use Rattle.std.proofs.Common.{length}
use Rattle.walk_places.proofs.sizes.+fixed_size.Given as goal

abbrev pub decreases-fixed_size : goal.decreases-fixed_size
decreases-fixed_size l = length l.dims.now
