use Rattle.call_frames.proofs.Told.{told_by_calls as law}
use Rattle.call_frames.proofs.laws.told_by_calls.Goals as goal

pub returns : goal.returns
returns c = law
