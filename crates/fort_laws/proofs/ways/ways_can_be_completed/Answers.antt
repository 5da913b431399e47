use Rattle.fort_laws.proofs.Near.{ways_can_be_completed as law}
use Rattle.fort_laws.proofs.ways.ways_can_be_completed.Goals as goal

pub returns : goal.returns
returns c = law
