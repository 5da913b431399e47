use Rattle.run_code.proofs.Coded.{expressions_are_taken as law}
use Rattle.run_code.proofs.expressions_are_taken.Goals as goal

pub returns : goal.returns
returns c = law
