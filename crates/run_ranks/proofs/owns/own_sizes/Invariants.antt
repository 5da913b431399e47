use Rattle.std.proofs.Common.{◌≡◌, ◌++◌, drop}
use Rattle.run_ranks.specs.Owns.{fixed_sizes}
use Rattle.run_ranks.proofs.owns.own_sizes.Given as goal

abbrev pub invariant-loop-data : goal.invariant-loop-data
invariant-loop-data l = l.sizes.items ++ fixed_sizes (drop l.data-index l.names) ≡ fixed_sizes l.names
