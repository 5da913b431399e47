use Rattle.run_code.proofs.Stated.{statements_are_performed as law}
use Rattle.run_code.proofs.statements_are_performed.Goals as goal

pub returns : goal.returns
returns c = law
