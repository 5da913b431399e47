use Rattle.std.proofs.Common.{◌≡◌, drop}
use Rattle.std.specs.List.{list_any}
use Rattle.fort_syntax.specs.NameRules.{is_zero_dim}
use Rattle.decl_faults.proofs.dims.has_zero.Given as goal

abbrev pub invariant-loop-dim : goal.invariant-loop-dim
invariant-loop-dim l = list_any is_zero_dim (drop l.dim-index l.dims) ≡ list_any is_zero_dim l.dims
