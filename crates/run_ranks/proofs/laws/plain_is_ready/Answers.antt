use Rattle.run_ranks.proofs.Plain.{ready}
use Rattle.run_ranks.proofs.laws.plain_is_ready.Goals as goal

pub returns : goal.returns
returns c = ready
