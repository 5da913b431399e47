use Rattle.fort_laws.proofs.SafeUnits.{safe_units_end as law}
use Rattle.fort_laws.proofs.units.safe_units_end.Goals as goal

pub returns : goal.returns
returns c = law
