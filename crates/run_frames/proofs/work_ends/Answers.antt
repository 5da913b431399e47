use Rattle.run_frames.proofs.Ends.{work_ends as law}
use Rattle.run_frames.proofs.work_ends.Goals as goal

pub returns : goal.returns
returns c = law
