use Rattle.weight_tallies.proofs.Along.{tallies_are_weights as law}
use Rattle.weight_tallies.proofs.laws.tallies_are_weights.Goals as goal

pub returns : goal.returns
returns c = law
