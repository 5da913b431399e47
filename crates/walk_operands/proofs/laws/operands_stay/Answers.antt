use Rattle.walk_operands.proofs.Joined.{operands_stay as law}
use Rattle.walk_operands.proofs.laws.operands_stay.Goals as goal

pub returns : goal.returns
returns c = law
