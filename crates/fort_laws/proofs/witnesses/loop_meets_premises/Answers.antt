use Rattle.fort_laws.proofs.WitnessDown.{loop_meets_premises as law}
use Rattle.fort_laws.proofs.witnesses.loop_meets_premises.Goals as goal

pub returns : goal.returns
returns c = law
