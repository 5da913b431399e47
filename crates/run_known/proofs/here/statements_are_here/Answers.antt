use Rattle.run_known.proofs.Named as lemma
use Rattle.run_known.proofs.here.statements_are_here.Goals as goal

pub returns : goal.returns
returns c = lemma.statements_are_here
