use Rattle.fort_laws.proofs.ByUnits.{calls_are_judged_by_units as law}
use Rattle.fort_laws.proofs.judged.calls_are_judged_by_units.Goals as goal

pub returns : goal.returns
returns c = law
