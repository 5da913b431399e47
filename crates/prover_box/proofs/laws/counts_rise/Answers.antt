use Rattle.prover_box.proofs.Enough.{rise}
use Rattle.prover_box.proofs.laws.counts_rise.Goals as goal

pub returns : goal.returns
returns c = rise
