use Rattle.run_ranks.proofs.Calling.{keeps}
use Rattle.run_ranks.proofs.laws.calls_keep_room.Goals as goal

pub returns : goal.returns
returns c = keeps
