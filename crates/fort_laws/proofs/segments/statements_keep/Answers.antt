use Rattle.fort_laws.proofs.WalkKeeps.{statements_keep as law}
use Rattle.fort_laws.proofs.segments.statements_keep.Goals as goal

pub returns : goal.returns
returns c = law
