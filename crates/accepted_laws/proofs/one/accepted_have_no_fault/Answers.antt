use Rattle.accepted_laws.proofs.NoFault.{accepted_have_no_fault as law}
use Rattle.accepted_laws.proofs.one.accepted_have_no_fault.Goals as goal

pub returns : goal.returns
returns c = law
