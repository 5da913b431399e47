use Rattle.formula.proofs.Added.{added_sound}
use Rattle.formula.proofs.laws.added_definitions_are_sound.Goals as goal

pub returns : goal.returns
returns c = added_sound
