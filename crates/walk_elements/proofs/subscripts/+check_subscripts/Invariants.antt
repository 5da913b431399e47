use Rattle.std.proofs.Common.{length}
use Rattle.walk_elements.proofs.subscripts.+check_subscripts.Given as goal

abbrev pub decreases-check_subscripts : goal.decreases-check_subscripts
decreases-check_subscripts l = length l.dims.now
