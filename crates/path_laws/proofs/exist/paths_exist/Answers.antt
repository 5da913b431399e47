use Rattle.path_laws.proofs.UnitPaths.{paths_exist as law}
use Rattle.path_laws.proofs.exist.paths_exist.Goals as goal

pub returns : goal.returns
returns c = law
