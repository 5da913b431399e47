use Rattle.run_ranks.proofs.Ordered.{holds_code}
use Rattle.run_ranks.proofs.fitting.orders_hold_code.Goals as goal

pub returns : goal.returns
returns c = holds_code
