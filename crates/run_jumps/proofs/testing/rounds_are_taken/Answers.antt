use Rattle.run_jumps.proofs.Taken.{taken, plain}
use Rattle.run_jumps.proofs.testing.rounds_are_taken.Goals as goal

pub returns : goal.returns
returns c code setting round m ready = (taken code setting round m ready, plain m code.dialect setting round)
