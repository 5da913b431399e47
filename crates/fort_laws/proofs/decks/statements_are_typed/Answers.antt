use Rattle.fort_laws.proofs.TypedLines.{statements_are_typed as law}
use Rattle.fort_laws.proofs.decks.statements_are_typed.Goals as goal

pub returns : goal.returns
returns c = law
