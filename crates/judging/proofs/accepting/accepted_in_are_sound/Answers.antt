use Rattle.judging.proofs.OneJudgement.{accepted_in_are_sound as law}
use Rattle.judging.proofs.accepting.accepted_in_are_sound.Goals as goal

pub returns : goal.returns
returns c = law
