use Rattle.fort_laws.proofs.Descents.{safe_runs_end as law}
use Rattle.fort_laws.proofs.segments.safe_runs_end.Goals as goal

pub returns : goal.returns
returns c = law
