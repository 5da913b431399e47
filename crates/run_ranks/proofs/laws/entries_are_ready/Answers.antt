use Rattle.run_ranks.proofs.Entries.{ready}
use Rattle.run_ranks.proofs.laws.entries_are_ready.Goals as goal

pub returns : goal.returns
returns c = ready
