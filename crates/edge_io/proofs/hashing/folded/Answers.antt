use mathlib.Core.Path.{refl}
use Rattle.edge_io.specs.Hashing.{folded}
use Rattle.edge_io.proofs.hashing.folded.Goals as goal

pub returns : goal.returns
unfolding folded
returns c = refl
