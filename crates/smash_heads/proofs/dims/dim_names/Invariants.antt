use Rattle.std.proofs.Common.{◌≡◌, [], drop}
use Rattle.std.specs.Prelude.{flat_map}
use Rattle.fort_syntax.specs.Units.{names_in_dims}
use Rattle.name_tables.specs.Sets.{with_names}
use Rattle.smash_heads.proofs.dims.dim_names.Given as goal

abbrev pub invariant-loop-entry : goal.invariant-loop-entry
invariant-loop-entry l = with_names l.set (flat_map (λ d. names_in_dims d.dims) (drop l.entry-index l.names)) ≡ with_names [] (flat_map (λ d. names_in_dims d.dims) l.names)
