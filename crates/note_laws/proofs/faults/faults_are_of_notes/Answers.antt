use Rattle.note_laws.proofs.NoteFaults.{faults_are_of_notes as law}
use Rattle.note_laws.proofs.faults.faults_are_of_notes.Goals as goal

pub returns : goal.returns
returns c = law
