use Rattle.run_places.proofs.Obeying.{obeyed}
use Rattle.run_places.proofs.Plain.{plain}
use Rattle.run_places.proofs.arrays.arrays_are_obeyed.Goals as goal

pub returns : goal.returns
returns c code setting slot n m ready = (obeyed code setting slot n m ready, plain code slot n m ready)
