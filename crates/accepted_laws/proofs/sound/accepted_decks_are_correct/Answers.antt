use Rattle.accepted_laws.proofs.SoundDecks.{accepted_decks_are_correct as law}
use Rattle.accepted_laws.proofs.sound.accepted_decks_are_correct.Goals as goal

pub returns : goal.returns
returns c = law
