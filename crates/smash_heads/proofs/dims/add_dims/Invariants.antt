use Rattle.std.proofs.Common.{◌≡◌, drop}
use Rattle.fort_syntax.specs.Units.{names_in_dims}
use Rattle.name_tables.specs.Sets.{with_names}
use Rattle.smash_heads.proofs.dims.add_dims.Given as goal

abbrev pub invariant-loop-dim : goal.invariant-loop-dim
invariant-loop-dim l = with_names l.set (names_in_dims (drop l.dim-index l.dims)) ≡ with_names l.initial.set (names_in_dims l.dims)
