use Rattle.deck_laws.proofs.WellFormedDecks.{decks_without_fault_are_well_formed as law}
use Rattle.deck_laws.proofs.well_formed.decks_without_fault_are_well_formed.Goals as goal

pub returns : goal.returns
returns c = law
