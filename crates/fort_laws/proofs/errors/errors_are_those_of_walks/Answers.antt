use Rattle.fort_laws.proofs.ErrorsOfWalks.{errors_are_those_of_walks as law}
use Rattle.fort_laws.proofs.errors.errors_are_those_of_walks.Goals as goal

pub returns : goal.returns
returns c = law
