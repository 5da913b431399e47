use Rattle.run_calls.proofs.Entered.{enters}
use Rattle.run_calls.proofs.laws.units_are_entered.Goals as goal

pub returns : goal.returns
returns c = enters
