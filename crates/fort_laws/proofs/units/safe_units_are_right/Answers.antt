use Rattle.fort_laws.proofs.RightUnits.{safe_units_are_right as law}
use Rattle.fort_laws.proofs.units.safe_units_are_right.Goals as goal

pub returns : goal.returns
returns c = law
