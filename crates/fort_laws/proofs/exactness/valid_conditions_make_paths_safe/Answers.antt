use Rattle.fort_laws.proofs.ValidPaths.{valid_conditions_make_paths_safe as law}
use Rattle.fort_laws.proofs.exactness.valid_conditions_make_paths_safe.Goals as goal

pub returns : goal.returns
returns c = law
