use Rattle.size_tallies.proofs.Judging.{units_follow as law}
use Rattle.size_tallies.proofs.laws.units_follow.Goals as goal

pub returns : goal.returns
returns c = law
