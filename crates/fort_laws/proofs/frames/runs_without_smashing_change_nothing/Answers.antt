use Rattle.fort_laws.proofs.FrameCalls.{runs_without_smashing_change_nothing as law}
use Rattle.fort_laws.proofs.frames.runs_without_smashing_change_nothing.Goals as goal

pub returns : goal.returns
returns c = law
