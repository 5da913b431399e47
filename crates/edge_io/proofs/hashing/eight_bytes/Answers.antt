use Rattle.edge_io.specs.Hashing.{eight_bytes}
use Rattle.edge_io.proofs.hashing.eight_bytes.Goals as goal

pub returns : goal.returns
unfolding eight_bytes
returns c = rw (c.four_bytes.ensures, c.four_bytes-2.ensures)
