use Rattle.accepted_laws.proofs.OneProgram.{accepted_are_one as law}
use Rattle.accepted_laws.proofs.one.accepted_are_one.Goals as goal

pub returns : goal.returns
returns c = law
