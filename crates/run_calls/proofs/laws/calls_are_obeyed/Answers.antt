use Rattle.run_calls.proofs.Called.{obeys_refer}
use Rattle.run_calls.proofs.laws.calls_are_obeyed.Goals as goal

pub returns : goal.returns
returns c = obeys_refer
