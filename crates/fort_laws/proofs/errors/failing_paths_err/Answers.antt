use Rattle.fort_laws.proofs.ErrorsAtEntry.{failing_paths_err as law}
use Rattle.fort_laws.proofs.errors.failing_paths_err.Goals as goal

pub returns : goal.returns
returns c = law
