use Rattle.run_moves.proofs.Moved.{moves_are_exact as law}
use Rattle.run_moves.proofs.moves_are_exact.Goals as goal

pub returns : goal.returns
returns c = law
