use Rattle.run_ranks.proofs.Plain.{lines_keep}
use Rattle.run_ranks.proofs.laws.lines_keep_room.Goals as goal

pub returns : goal.returns
returns c = lines_keep
