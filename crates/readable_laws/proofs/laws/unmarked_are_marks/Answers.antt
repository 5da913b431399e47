use Rattle.readable_laws.proofs.Readable.{unmarked_are_marks as law}
use Rattle.readable_laws.proofs.laws.unmarked_are_marks.Goals as goal

pub returns : goal.returns
returns c = law
