use Rattle.edge_io.proofs.hashing.KeyedHasherHasher.finish.Goals as goal

pub returns : goal.returns
returns c = c.folded.ensures
