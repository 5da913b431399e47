use Rattle.fort_laws.proofs.OnePath.{paths_are_one as law}
use Rattle.fort_laws.proofs.trails.paths_are_one.Goals as goal

pub returns : goal.returns
returns c = law
