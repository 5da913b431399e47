use Rattle.deck_entries.proofs.DeckOrFault.{decks_are_one as law}
use Rattle.deck_entries.proofs.laws.decks_are_one.Goals as goal

pub returns : goal.returns
returns c = law
