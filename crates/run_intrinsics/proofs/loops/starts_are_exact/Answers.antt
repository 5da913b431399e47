use Rattle.run_intrinsics.proofs.Starts.{exact}
use Rattle.run_intrinsics.proofs.loops.starts_are_exact.Goals as goal

pub returns : goal.returns
returns c = exact
