use Rattle.fort_laws.proofs.RulesKept.{rules_pass_smashed_alone as law}
use Rattle.fort_laws.proofs.frames.rules_pass_smashed_alone.Goals as goal

pub returns : goal.returns
returns c = law
