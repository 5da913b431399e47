use Rattle.formula.proofs.UseDepths.{turns_alone_decide}
use Rattle.formula.proofs.worth_laws.turns_alone_decide.Goals as goal

pub returns : goal.returns
returns c = turns_alone_decide
