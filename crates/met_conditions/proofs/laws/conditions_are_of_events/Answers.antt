use Rattle.met_conditions.proofs.OfEvents.{conditions_are_of_events as law}
use Rattle.met_conditions.proofs.laws.conditions_are_of_events.Goals as goal

pub returns : goal.returns
returns c = law
