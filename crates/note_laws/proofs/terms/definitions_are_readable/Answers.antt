use Rattle.note_laws.proofs.DefinitionsRead.{definitions_are_readable as law}
use Rattle.note_laws.proofs.terms.definitions_are_readable.Goals as goal

pub returns : goal.returns
returns c = law
