use Rattle.judging.proofs.OneJudgement.{kept_are_one as law}
use Rattle.judging.proofs.accepting.kept_are_one.Goals as goal

pub returns : goal.returns
returns c = law
