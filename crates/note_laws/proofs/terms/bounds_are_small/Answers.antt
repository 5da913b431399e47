use Rattle.note_laws.proofs.SmallBounds.{bounds_are_small as law}
use Rattle.note_laws.proofs.terms.bounds_are_small.Goals as goal

pub returns : goal.returns
returns c = law
