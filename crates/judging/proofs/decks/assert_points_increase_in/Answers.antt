use Rattle.judging.proofs.DecksMade.{assert_points_increase_in as law}
use Rattle.judging.proofs.decks.assert_points_increase_in.Goals as goal

pub returns : goal.returns
returns c = law
