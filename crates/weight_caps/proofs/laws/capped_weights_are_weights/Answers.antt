use Rattle.weight_caps.proofs.CappedSums.{capped_weights_are_weights as law}
use Rattle.weight_caps.proofs.laws.capped_weights_are_weights.Goals as goal

pub returns : goal.returns
returns c = law
