use Rattle.way_laws.proofs.Read.{ways_have_points as law}
use Rattle.way_laws.proofs.laws.ways_have_points.Goals as goal

pub returns : goal.returns
returns c = law
