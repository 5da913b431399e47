use Rattle.fort_laws.proofs.FlowEnds.{ends_are_returns as law}
use Rattle.fort_laws.proofs.decks.ends_are_returns.Goals as goal

pub returns : goal.returns
returns c = law
