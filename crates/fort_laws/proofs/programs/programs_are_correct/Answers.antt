use Rattle.fort_laws.proofs.CorrectPrograms.{programs_are_correct as law}
use Rattle.fort_laws.proofs.programs.programs_are_correct.Goals as goal

pub returns : goal.returns
returns c = law
