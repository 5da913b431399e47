use Rattle.note_terms.proofs.KnownTerms.{fitting_terms_are_known as law}
use Rattle.note_terms.proofs.laws.fitting_terms_are_known.Goals as goal

pub returns : goal.returns
returns c = law
