use Rattle.run_ranks.proofs.Apart.{apart}
use Rattle.run_ranks.proofs.fitting.names_are_apart.Goals as goal

pub returns : goal.returns
returns c = apart
