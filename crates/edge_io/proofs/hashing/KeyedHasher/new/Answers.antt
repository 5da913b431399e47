use mathlib.Core.Path.{refl}
use Rattle.edge_io.specs.Hashing.{keyed}
use Rattle.edge_io.proofs.hashing.KeyedHasher.new.Goals as goal

pub returns : goal.returns
unfolding keyed
returns c = refl
