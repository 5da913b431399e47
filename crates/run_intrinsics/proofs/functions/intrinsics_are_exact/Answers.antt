use Rattle.run_intrinsics.proofs.Reckoned.{exact}
use Rattle.run_intrinsics.proofs.functions.intrinsics_are_exact.Goals as goal

pub returns : goal.returns
returns c = exact
