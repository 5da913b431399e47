use Rattle.std.proofs.Common.{length}
use Rattle.note_terms.proofs.clocks.+fallen.Given as goal

abbrev pub decreases-fallen : goal.decreases-fallen
decreases-fallen l = length l.new.now
