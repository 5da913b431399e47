use Rattle.std.proofs.Common.{◌≡◌, ◌++◌, drop, map}
use Rattle.run_sizes.specs.Sized.{dim_in}
use Rattle.run_sizes.proofs.sizes.push_dims.Given as goal

abbrev pub invariant-loop-d : goal.invariant-loop-d
invariant-loop-d l = l.sizes.items ++ map (dim_in l.scope.names.now) (drop l.d-index l.dims) ≡ l.fn.sizes.items ++ map (dim_in l.scope.names.now) l.dims
