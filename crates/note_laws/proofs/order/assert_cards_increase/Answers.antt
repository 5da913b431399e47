use Rattle.note_laws.proofs.CardsIncrease.{assert_cards_increase as law}
use Rattle.note_laws.proofs.order.assert_cards_increase.Goals as goal

pub returns : goal.returns
returns c = law
