use Rattle.note_terms.proofs.KnownTerms.{facts_are_those_of_walks as law}
use Rattle.note_terms.proofs.laws.facts_are_those_of_walks.Goals as goal

pub returns : goal.returns
returns c = law
