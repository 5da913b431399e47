use Rattle.run_frames.proofs.Stepped.{steps_are_taken as law}
use Rattle.run_frames.proofs.steps_are_taken.Goals as goal

pub returns : goal.returns
returns c = law
