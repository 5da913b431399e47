use Rattle.fort_laws.proofs.AlongPaths.{paths_lead_through as law}
use Rattle.fort_laws.proofs.trails.paths_lead_through.Goals as goal

pub returns : goal.returns
returns c = law
