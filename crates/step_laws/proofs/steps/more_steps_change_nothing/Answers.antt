use Rattle.step_laws.proofs.TiedRuns.{more_steps_change_nothing as law}
use Rattle.step_laws.proofs.steps.more_steps_change_nothing.Goals as goal

pub returns : goal.returns
returns c = law
