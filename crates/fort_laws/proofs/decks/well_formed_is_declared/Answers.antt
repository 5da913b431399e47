use Rattle.fort_laws.proofs.DeclaredDecks.{well_formed_is_declared as law}
use Rattle.fort_laws.proofs.decks.well_formed_is_declared.Goals as goal

pub returns : goal.returns
returns c = law
