use Rattle.run_known.proofs.Slotted.{has_slot}
use Rattle.run_known.proofs.here.names_have_slots.Goals as goal

pub returns : goal.returns
returns c = has_slot
