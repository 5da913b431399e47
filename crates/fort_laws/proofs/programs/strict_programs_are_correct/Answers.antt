use Rattle.fort_laws.proofs.StrictPrograms.{strict_programs_are_correct as law}
use Rattle.fort_laws.proofs.programs.strict_programs_are_correct.Goals as goal

pub returns : goal.returns
returns c = law
