use Rattle.readable_laws.proofs.OfTexts.{unmarked_in_are_readable as law}
use Rattle.readable_laws.proofs.laws.unmarked_in_are_readable.Goals as goal

pub returns : goal.returns
returns c = law
