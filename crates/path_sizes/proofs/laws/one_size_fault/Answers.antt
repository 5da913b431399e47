use Rattle.path_sizes.proofs.Judged.{one_size_fault as law}
use Rattle.path_sizes.proofs.laws.one_size_fault.Goals as goal

pub returns : goal.returns
returns c = law
