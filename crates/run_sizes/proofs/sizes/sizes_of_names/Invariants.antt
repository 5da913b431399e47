use Rattle.std.proofs.Common.{◌≡◌, ◌++◌, drop, length}
use Rattle.run_coding.specs.Scopes.{unit_of}
use Rattle.run_sizes.specs.Sized.{shapes_from, sizes_of}
use Rattle.run_sizes.proofs.sizes.sizes_of_names.Given as goal

abbrev pub invariant-loop-name : goal.invariant-loop-name
invariant-loop-name l =
    let u = unit_of l.scope in
    let names = l.scope.names.now in
    record {
      shapes : l.all.shapes.items ++ shapes_from u (length l.all.sizes.items) (drop l.name-index names) ≡ shapes_from u 0 names;
      sizes : l.all.sizes.items ++ sizes_of u names (drop l.name-index names) ≡ sizes_of u names names;
    }
