use Rattle.run_ranks.proofs.Entries.{keeps}
use Rattle.run_ranks.proofs.laws.entries_keep_room.Goals as goal

pub returns : goal.returns
returns c = keeps
