use Rattle.weight_caps.proofs.LoadParts.{loads_are_those_of_parts as law}
use Rattle.weight_caps.proofs.laws.loads_are_those_of_parts.Goals as goal

pub returns : goal.returns
returns c = law
