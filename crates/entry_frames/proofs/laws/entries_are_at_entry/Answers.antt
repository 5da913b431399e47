use Rattle.entry_frames.proofs.Entered.{entries_are_at_entry as law}
use Rattle.entry_frames.proofs.laws.entries_are_at_entry.Goals as goal

pub returns : goal.returns
returns c = law
