use Rattle.fort_laws.proofs.WitnessFacts.{rot_has_call_facts as law}
use Rattle.fort_laws.proofs.witnesses.rot_has_call_facts.Goals as goal

pub returns : goal.returns
returns c = law
