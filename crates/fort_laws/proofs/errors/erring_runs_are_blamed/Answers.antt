use Rattle.fort_laws.proofs.ErrorsBlamed.{erring_runs_are_blamed as law}
use Rattle.fort_laws.proofs.errors.erring_runs_are_blamed.Goals as goal

pub returns : goal.returns
returns c = law
