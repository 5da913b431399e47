use Rattle.std.proofs.Common.{◌≡◌, drop}
use Rattle.run_ranks.specs.Owns.{fixed_from}
use Rattle.run_ranks.proofs.owns.fixed_size.Given as goal

abbrev pub invariant-loop-dim : goal.invariant-loop-dim
invariant-loop-dim l = fixed_from l.size (drop l.dim-index l.dims) ≡ fixed_from 1 l.dims
