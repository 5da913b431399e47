use Rattle.unit_notes.proofs.NotesTold.{ready_notes_fit as law}
use Rattle.unit_notes.proofs.laws.ready_notes_fit.Goals as goal

pub returns : goal.returns
returns c = law
