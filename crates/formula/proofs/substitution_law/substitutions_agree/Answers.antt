use Rattle.formula.proofs.Agreeing.{agree}
use Rattle.formula.proofs.substitution_law.substitutions_agree.Goals as goal

pub returns : goal.returns
returns c = agree
