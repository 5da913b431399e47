use Rattle.fort_laws.proofs.ErrorsChoices.{choices_are_decided as law}
use Rattle.fort_laws.proofs.errors.choices_are_decided.Goals as goal

pub returns : goal.returns
returns c = law
