use Rattle.accepted_laws.proofs.SoundDecks.{accepted_conditions_are_exact as law}
use Rattle.accepted_laws.proofs.sound.accepted_conditions_are_exact.Goals as goal

pub returns : goal.returns
returns c = law
