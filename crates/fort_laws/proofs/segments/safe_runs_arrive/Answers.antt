use Rattle.fort_laws.proofs.SafeRuns.{safe_runs_arrive as law}
use Rattle.fort_laws.proofs.segments.safe_runs_arrive.Goals as goal

pub returns : goal.returns
returns c = law
