use Rattle.fort_laws.proofs.RulesKept.{rules_make_sound as law}
use Rattle.fort_laws.proofs.frames.rules_make_sound.Goals as goal

pub returns : goal.returns
returns c = law
