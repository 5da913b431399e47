use Rattle.fort_laws.proofs.CallMatched.{calls_are_matched as law}
use Rattle.fort_laws.proofs.calls.calls_are_matched.Goals as goal

pub returns : goal.returns
returns c = law
