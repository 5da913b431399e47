use Rattle.fort_laws.proofs.FrameCalls.{runs_change_only_smashed as law}
use Rattle.fort_laws.proofs.frames.runs_change_only_smashed.Goals as goal

pub returns : goal.returns
returns c = law
