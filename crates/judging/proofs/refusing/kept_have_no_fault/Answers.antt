use Rattle.judging.proofs.NoneBoth.{kept_have_no_fault as law}
use Rattle.judging.proofs.refusing.kept_have_no_fault.Goals as goal

pub returns : goal.returns
returns c = law
