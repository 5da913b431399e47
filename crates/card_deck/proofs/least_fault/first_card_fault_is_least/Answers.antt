use Rattle.card_deck.proofs.LeastFault.{first_is_least}
use Rattle.card_deck.proofs.least_fault.first_card_fault_is_least.Goals as goal

pub returns : goal.returns
returns c = first_is_least
