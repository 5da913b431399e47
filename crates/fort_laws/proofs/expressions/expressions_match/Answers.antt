use Rattle.fort_laws.proofs.MatchedOperands.{expressions_match as law}
use Rattle.fort_laws.proofs.expressions.expressions_match.Goals as goal

pub returns : goal.returns
returns c = law
