use Rattle.fort_laws.proofs.Exact.{conditions_are_exact as law}
use Rattle.fort_laws.proofs.exactness.conditions_are_exact.Goals as goal

pub returns : goal.returns
returns c = law
