use Rattle.run_frames.proofs.Began.{runs_are_rests as law}
use Rattle.run_frames.proofs.runs_are_rests.Goals as goal

pub returns : goal.returns
returns c = law
