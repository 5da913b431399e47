use Rattle.way_walks.proofs.Going.{walks_go_along as law}
use Rattle.way_walks.proofs.laws.walks_go_along.Goals as goal

pub returns : goal.returns
returns c = law
