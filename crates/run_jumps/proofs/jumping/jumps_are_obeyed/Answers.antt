use Rattle.run_jumps.proofs.Led.{obeyed}
use Rattle.run_jumps.proofs.Plain.{plain}
use Rattle.run_jumps.proofs.jumping.jumps_are_obeyed.Goals as goal

pub returns : goal.returns
returns c code setting i m jump ready = (obeyed code setting i m jump ready, plain code setting i m ready)
