use Rattle.deck_entries.proofs.DeckOrFault.{deck_or_first_fault as law}
use Rattle.deck_entries.proofs.laws.deck_or_first_fault.Goals as goal

pub returns : goal.returns
returns c = law
