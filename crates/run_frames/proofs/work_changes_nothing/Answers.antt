use Rattle.run_frames.proofs.Worked.{work_changes_nothing as law}
use Rattle.run_frames.proofs.work_changes_nothing.Goals as goal

pub returns : goal.returns
returns c = law
