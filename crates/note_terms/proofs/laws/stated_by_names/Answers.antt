use Rattle.note_terms.proofs.KnownTerms.{stated_by_names as law}
use Rattle.note_terms.proofs.laws.stated_by_names.Goals as goal

pub returns : goal.returns
returns c = law
