use Rattle.path_sizes.proofs.Judged.{sizes_are_judged as law}
use Rattle.path_sizes.proofs.laws.sizes_are_judged.Goals as goal

pub returns : goal.returns
returns c = law
