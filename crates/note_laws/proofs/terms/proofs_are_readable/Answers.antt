use Rattle.note_laws.proofs.TermsRead.{proofs_are_readable as law}
use Rattle.note_laws.proofs.terms.proofs_are_readable.Goals as goal

pub returns : goal.returns
returns c = law
