use Rattle.readable_laws.proofs.OfTexts.{conditions_in_are_readable as law}
use Rattle.readable_laws.proofs.laws.conditions_in_are_readable.Goals as goal

pub returns : goal.returns
returns c = law
