use Rattle.note_laws.proofs.TermsRead.{terms_are_readable as law}
use Rattle.note_laws.proofs.terms.terms_are_readable.Goals as goal

pub returns : goal.returns
returns c = law
