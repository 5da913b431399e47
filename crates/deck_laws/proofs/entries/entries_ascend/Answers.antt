use Rattle.deck_laws.proofs.AscendingEntries.{entries_ascend as law}
use Rattle.deck_laws.proofs.entries.entries_ascend.Goals as goal

pub returns : goal.returns
returns c = law
