use Rattle.run_elements.proofs.Obeying.{obeyed}
use Rattle.run_elements.proofs.Plain.{plain}
use Rattle.run_elements.proofs.works.elements_are_obeyed.Goals as goal

pub returns : goal.returns
returns c code setting i m element ready = (obeyed code setting i m element ready, plain code setting i m ready)
