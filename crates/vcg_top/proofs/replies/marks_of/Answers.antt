use Rattle.std.proofs.Common.{subst}
use Rattle.vcg_top.specs.Marked.{AreSmall}
use Rattle.vcg_top.proofs.replies.marks_of.Goals as goal

pub returns-clause-marks : goal.returns-clause-marks
returns-clause-marks g c = record { asked = c.in-Ok.ensures.asked; counts = c.in-Ok.ensures.told; small = subst AreSmall c.as_slice.ensures c.counted.ensures }
