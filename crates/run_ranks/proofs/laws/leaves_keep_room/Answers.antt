use Rattle.run_ranks.proofs.Leaves.{keeps}
use Rattle.run_ranks.proofs.laws.leaves_keep_room.Goals as goal

pub returns : goal.returns
returns c = keeps
