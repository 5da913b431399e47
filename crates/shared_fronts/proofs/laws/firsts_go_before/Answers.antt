use Rattle.shared_fronts.proofs.Firsts.{firsts_then}
use Rattle.shared_fronts.proofs.laws.firsts_go_before.Goals as goal

pub returns : goal.returns
returns c = firsts_then
