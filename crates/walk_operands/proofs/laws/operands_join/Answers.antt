use Rattle.walk_operands.proofs.Joined.{operands_join as law}
use Rattle.walk_operands.proofs.laws.operands_join.Goals as goal

pub returns : goal.returns
returns c = law
