use Rattle.way_laws.proofs.Whole.{ways_are_paths as law}
use Rattle.way_laws.proofs.laws.ways_are_paths.Goals as goal

pub returns : goal.returns
returns c = law
