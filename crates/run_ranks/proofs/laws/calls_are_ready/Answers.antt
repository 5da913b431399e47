use Rattle.run_ranks.proofs.Calling.{ready}
use Rattle.run_ranks.proofs.laws.calls_are_ready.Goals as goal

pub returns : goal.returns
returns c = ready
