use Rattle.size_tallies.proofs.Adding.{sizes_are_tallied as law}
use Rattle.size_tallies.proofs.laws.sizes_are_tallied.Goals as goal

pub returns : goal.returns
returns c = law
