use Rattle.unit_notes.proofs.Kept.{ready_functions_keep as law}
use Rattle.unit_notes.proofs.laws.ready_functions_keep.Goals as goal

pub returns : goal.returns
returns c = law
