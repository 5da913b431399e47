use Rattle.step_laws.proofs.Unfolding.{runs_unfold as law}
use Rattle.step_laws.proofs.steps.runs_unfold.Goals as goal

pub returns : goal.returns
returns c = law
