use Rattle.fort_laws.proofs.OnePath.{all_paths_are_one as law}
use Rattle.fort_laws.proofs.trails.all_paths_are_one.Goals as goal

pub returns : goal.returns
returns c = law
