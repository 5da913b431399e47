use Rattle.judging.proofs.OneJudgement.{kept_are_accepted as law}
use Rattle.judging.proofs.accepting.kept_are_accepted.Goals as goal

pub returns : goal.returns
returns c = law
