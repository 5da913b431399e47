use Rattle.std.proofs.Common.{length}
use Rattle.walk_elements.proofs.functions.+folded.Given as goal

abbrev pub decreases-folded : goal.decreases-folded
decreases-folded l = length l.others.now
