use Rattle.run_moves.proofs.Moved.{tests_are_exact as law}
use Rattle.run_moves.proofs.tests_are_exact.Goals as goal

pub returns : goal.returns
returns c = law
