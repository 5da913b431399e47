use Rattle.path_laws.proofs.AllPaths.{all_paths_exist as law}
use Rattle.path_laws.proofs.exist.all_paths_exist.Goals as goal

pub returns : goal.returns
returns c = law
