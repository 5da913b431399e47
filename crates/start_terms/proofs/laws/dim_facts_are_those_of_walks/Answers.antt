use Rattle.start_terms.proofs.StartLaws.{dim_facts_are_those_of_walks as law}
use Rattle.start_terms.proofs.laws.dim_facts_are_those_of_walks.Goals as goal

pub returns : goal.returns
returns c = law
