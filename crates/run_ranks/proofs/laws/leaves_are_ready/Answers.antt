use Rattle.run_ranks.proofs.Leaves.{ready}
use Rattle.run_ranks.proofs.laws.leaves_are_ready.Goals as goal

pub returns : goal.returns
returns c = ready
