use Rattle.fort_laws.proofs.Numerals.{numerals_are_decimal as law}
use Rattle.fort_laws.proofs.exactness.numerals_are_decimal.Goals as goal

pub returns : goal.returns
returns c = law
