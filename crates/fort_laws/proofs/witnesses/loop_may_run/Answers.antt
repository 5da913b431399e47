use Rattle.fort_laws.proofs.WitnessRuns.{loop_may_run as law}
use Rattle.fort_laws.proofs.witnesses.loop_may_run.Goals as goal

pub returns : goal.returns
returns c = law
