use Rattle.formula.proofs.OnSheet.{assignments_suffice}
use Rattle.formula.proofs.worth_laws.assignments_suffice.Goals as goal

pub returns : goal.returns
returns c = assignments_suffice
