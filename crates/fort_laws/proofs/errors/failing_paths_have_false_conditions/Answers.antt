use Rattle.fort_laws.proofs.FalseConditions.{failing_paths_have_false_conditions as law}
use Rattle.fort_laws.proofs.errors.failing_paths_have_false_conditions.Goals as goal

pub returns : goal.returns
returns c = law
