use Rattle.step_laws.proofs.TiedRuns.{fewer_steps_are_not_enough as law}
use Rattle.step_laws.proofs.steps.fewer_steps_are_not_enough.Goals as goal

pub returns : goal.returns
returns c = law
