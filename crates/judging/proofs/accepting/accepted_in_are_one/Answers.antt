use Rattle.judging.proofs.OneJudgement.{accepted_in_are_one as law}
use Rattle.judging.proofs.accepting.accepted_in_are_one.Goals as goal

pub returns : goal.returns
returns c = law
