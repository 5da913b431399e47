use Rattle.run_made.proofs.Fitting as lemma
use Rattle.run_made.proofs.laws.lines_have_slots.Goals as goal

pub returns : goal.returns
returns c = lemma.lines_have_slots
