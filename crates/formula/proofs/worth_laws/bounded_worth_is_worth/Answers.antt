use Rattle.formula.proofs.BoundedWorth.{bounded_worth_is_worth}
use Rattle.formula.proofs.worth_laws.bounded_worth_is_worth.Goals as goal

pub returns : goal.returns
returns c = bounded_worth_is_worth
