use Rattle.size_tallies.proofs.Judging.{units_are_judged as law}
use Rattle.size_tallies.proofs.laws.units_are_judged.Goals as goal

pub returns : goal.returns
returns c = law
