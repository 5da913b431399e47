use Rattle.met_conditions.proofs.OfEvents.{conditions_are_in as law}
use Rattle.met_conditions.proofs.laws.conditions_are_in.Goals as goal

pub returns : goal.returns
returns c = law
