use Rattle.fort_laws.proofs.DeclaredUnits.{blocks_are_common as law}
use Rattle.fort_laws.proofs.decks.blocks_are_common.Goals as goal

pub returns : goal.returns
returns c = law
