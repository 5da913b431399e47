use Rattle.run_ranks.proofs.Ordered.{callers_later}
use Rattle.run_ranks.proofs.fitting.callers_stand_later.Goals as goal

pub returns : goal.returns
returns c = callers_later
