use Rattle.fort_laws.proofs.PlaceBounds.{elements_lie_in_arrays as law}
use Rattle.fort_laws.proofs.places.elements_lie_in_arrays.Goals as goal

pub returns : goal.returns
returns c = law
