use Rattle.judging.proofs.DecksMade.{decks_in_are_well_formed as law}
use Rattle.judging.proofs.decks.decks_in_are_well_formed.Goals as goal

pub returns : goal.returns
returns c = law
