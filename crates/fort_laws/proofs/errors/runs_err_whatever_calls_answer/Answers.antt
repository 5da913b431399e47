use Rattle.fort_laws.proofs.ErrorsOfUnits.{runs_err_whatever_calls_answer as law}
use Rattle.fort_laws.proofs.errors.runs_err_whatever_calls_answer.Goals as goal

pub returns : goal.returns
returns c = law
