use Rattle.fort_laws.proofs.FrameReads.{evaluation_changes_nothing as law}
use Rattle.fort_laws.proofs.frames.evaluation_changes_nothing.Goals as goal

pub returns : goal.returns
returns c = law
