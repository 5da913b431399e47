use Rattle.formula.proofs.Added.{added-Grows}
use Rattle.formula.proofs.laws.added_definitions_stay.Goals as goal

pub returns : goal.returns
returns c = added-Grows
