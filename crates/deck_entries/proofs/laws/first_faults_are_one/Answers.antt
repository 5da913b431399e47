use Rattle.deck_entries.proofs.DeckOrFault.{first_faults_are_one as law}
use Rattle.deck_entries.proofs.laws.first_faults_are_one.Goals as goal

pub returns : goal.returns
returns c = law
