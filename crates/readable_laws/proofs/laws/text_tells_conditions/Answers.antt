use Rattle.readable_laws.proofs.OfTexts.{text_tells_conditions as law}
use Rattle.readable_laws.proofs.laws.text_tells_conditions.Goals as goal

pub returns : goal.returns
returns c = law
