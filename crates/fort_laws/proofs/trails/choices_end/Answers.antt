use Rattle.fort_laws.proofs.AlongPaths.{choices_end as law}
use Rattle.fort_laws.proofs.trails.choices_end.Goals as goal

pub returns : goal.returns
returns c = law
