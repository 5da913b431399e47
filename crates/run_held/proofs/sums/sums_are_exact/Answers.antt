use Rattle.run_held.proofs.Exact.{sums_are_exact as law}
use Rattle.run_held.proofs.sums.sums_are_exact.Goals as goal

pub returns : goal.returns
returns c = law
