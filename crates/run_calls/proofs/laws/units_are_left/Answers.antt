use Rattle.run_calls.proofs.Left.{leaves}
use Rattle.run_calls.proofs.laws.units_are_left.Goals as goal

pub returns : goal.returns
returns c = leaves
