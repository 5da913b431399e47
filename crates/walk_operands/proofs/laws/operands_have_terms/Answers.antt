use Rattle.walk_operands.proofs.Joined.{operands_have_terms as law}
use Rattle.walk_operands.proofs.laws.operands_have_terms.Goals as goal

pub returns : goal.returns
returns c = law
