use Rattle.fort_laws.proofs.SafeUnits.{smashed_have_types as law}
use Rattle.fort_laws.proofs.units.smashed_have_types.Goals as goal

pub returns : goal.returns
returns c = law
