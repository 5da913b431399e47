use Rattle.call_frames.proofs.Told.{frames_tell_notes as law}
use Rattle.call_frames.proofs.laws.frames_tell_notes.Goals as goal

pub returns : goal.returns
returns c = law
