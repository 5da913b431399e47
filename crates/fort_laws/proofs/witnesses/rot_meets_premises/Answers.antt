use Rattle.fort_laws.proofs.WitnessRotate.{rot_meets_premises as law}
use Rattle.fort_laws.proofs.witnesses.rot_meets_premises.Goals as goal

pub returns : goal.returns
returns c = law
