use Rattle.deck_sizes.proofs.Counting.{decks_are_short}
use Rattle.deck_sizes.proofs.laws.decks_are_short.Goals as goal

pub returns : goal.returns
returns c = decks_are_short
