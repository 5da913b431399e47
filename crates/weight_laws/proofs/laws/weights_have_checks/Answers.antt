use Rattle.weight_laws.proofs.Walked.{weights_have_checks as law}
use Rattle.weight_laws.proofs.laws.weights_have_checks.Goals as goal

pub returns : goal.returns
returns c = law
