use Rattle.fort_laws.proofs.AlongPaths.{flat_choices_tell_paths as law}
use Rattle.fort_laws.proofs.trails.flat_choices_tell_paths.Goals as goal

pub returns : goal.returns
returns c = law
