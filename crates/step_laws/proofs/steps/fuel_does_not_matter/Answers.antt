use Rattle.step_laws.proofs.TiedRuns.{fuel_does_not_matter as law}
use Rattle.step_laws.proofs.steps.fuel_does_not_matter.Goals as goal

pub returns : goal.returns
returns c = law
