use Rattle.shared_fronts.proofs.Firsts.{shared_firsts}
use Rattle.shared_fronts.proofs.laws.firsts_are_shared.Goals as goal

pub returns : goal.returns
returns c = shared_firsts
