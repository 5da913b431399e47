use Rattle.judging.proofs.OneFault.{faults_in_are_one as law}
use Rattle.judging.proofs.refusing.faults_in_are_one.Goals as goal

pub returns : goal.returns
returns c = law
