use Rattle.edge_io.specs.Hashing.{four_bytes}
use Rattle.edge_io.proofs.hashing.four_bytes.Goals as goal

pub returns : goal.returns
unfolding four_bytes
returns c = c.from_le_bytes.ensures
