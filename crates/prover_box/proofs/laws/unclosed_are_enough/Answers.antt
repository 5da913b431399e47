use Rattle.prover_box.proofs.Enough.{unclosed_enough}
use Rattle.prover_box.proofs.laws.unclosed_are_enough.Goals as goal

pub returns : goal.returns
returns c = unclosed_enough
