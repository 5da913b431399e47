use Rattle.path_laws.proofs.AllPaths.{conditions_are_one as law}
use Rattle.path_laws.proofs.exist.conditions_are_one.Goals as goal

pub returns : goal.returns
returns c = law
