use Rattle.fort_laws.proofs.DeclaredCalls.{calls_agree as law}
use Rattle.fort_laws.proofs.decks.calls_agree.Goals as goal

pub returns : goal.returns
returns c = law
