use Rattle.std.proofs.Common.{◌≡◌, ◌++◌, drop}
use Rattle.fort_syntax.specs.Units.{names_in_dims}
use Rattle.stmt_names.proofs.items.push_dims.Given as goal

abbrev pub invariant-loop-dim : goal.invariant-loop-dim
invariant-loop-dim l = (l.all.items ++ names_in_dims (drop l.dim-index l.dims)) ≡ (l.initial.all.items ++ names_in_dims l.dims)
