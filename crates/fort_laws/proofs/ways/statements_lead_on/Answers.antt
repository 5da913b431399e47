use Rattle.fort_laws.proofs.Near.{statements_lead_on as law}
use Rattle.fort_laws.proofs.ways.statements_lead_on.Goals as goal

pub returns : goal.returns
returns c = law
