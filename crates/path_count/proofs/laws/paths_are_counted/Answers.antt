use Rattle.path_count.proofs.Counted.{paths_are_counted as law}
use Rattle.path_count.proofs.laws.paths_are_counted.Goals as goal

pub returns : goal.returns
returns c = law
