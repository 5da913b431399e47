use Rattle.fort_laws.proofs.ErrorsOfUnits.{runs_arrive_or_err as law}
use Rattle.fort_laws.proofs.errors.runs_arrive_or_err.Goals as goal

pub returns : goal.returns
returns c = law
