use Rattle.readable_laws.proofs.Readable.{small_conditions_are_readable as law}
use Rattle.readable_laws.proofs.laws.small_conditions_are_readable.Goals as goal

pub returns : goal.returns
returns c = law
