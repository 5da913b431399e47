use Rattle.fort_laws.proofs.MatchedStatements.{statements_match as law}
use Rattle.fort_laws.proofs.statements.statements_match.Goals as goal

pub returns : goal.returns
returns c = law
