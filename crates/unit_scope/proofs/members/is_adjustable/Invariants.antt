use Rattle.std.proofs.Common.{◌≡◌, drop}
use Rattle.fort_syntax.specs.NameRules.{is_adjustable}
use Rattle.unit_scope.proofs.members.is_adjustable.Given as goal

abbrev pub invariant-loop-dim : goal.invariant-loop-dim
invariant-loop-dim l = is_adjustable (drop l.dim-index l.dims) ≡ is_adjustable l.dims
