use Rattle.fort_laws.proofs.LazyRuns.{lazy_runs_follow_strict_ones as law}
use Rattle.fort_laws.proofs.lazy.lazy_runs_follow_strict_ones.Goals as goal

pub returns : goal.returns
returns c = law
