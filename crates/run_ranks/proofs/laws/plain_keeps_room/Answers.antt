use Rattle.run_ranks.proofs.Plain.{keeps}
use Rattle.run_ranks.proofs.laws.plain_keeps_room.Goals as goal

pub returns : goal.returns
returns c = keeps
