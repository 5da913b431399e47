use Rattle.fort_laws.proofs.ErrorsAtEntry.{units_err_as_walks_do as law}
use Rattle.fort_laws.proofs.errors.units_err_as_walks_do.Goals as goal

pub returns : goal.returns
returns c = law
