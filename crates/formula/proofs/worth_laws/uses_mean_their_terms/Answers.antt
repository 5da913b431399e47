use Rattle.formula.proofs.OneMeaning.{uses_mean_their_terms}
use Rattle.formula.proofs.worth_laws.uses_mean_their_terms.Goals as goal

pub returns : goal.returns
returns c = uses_mean_their_terms
