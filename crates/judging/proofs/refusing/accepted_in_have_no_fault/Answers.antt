use Rattle.judging.proofs.NoneBoth.{accepted_in_have_no_fault as law}
use Rattle.judging.proofs.refusing.accepted_in_have_no_fault.Goals as goal

pub returns : goal.returns
returns c = law
