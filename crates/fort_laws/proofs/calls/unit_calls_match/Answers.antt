use Rattle.fort_laws.proofs.UnitCalls.{unit_calls_match as law}
use Rattle.fort_laws.proofs.calls.unit_calls_match.Goals as goal

pub returns : goal.returns
returns c = law
