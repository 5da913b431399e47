use Rattle.fort_laws.proofs.CorrectDecks.{decks_are_correct as law}
use Rattle.fort_laws.proofs.decks.decks_are_correct.Goals as goal

pub returns : goal.returns
returns c = law
