use Rattle.run_units.proofs.Whole as lemma
use Rattle.run_units.proofs.laws.parts_are_code.Goals as goal

pub returns : goal.returns
returns c = lemma.parts_are_code c.lines_are_code.ensures c.lines_have_slots.ensures
