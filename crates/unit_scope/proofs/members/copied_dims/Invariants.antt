use Rattle.std.proofs.Common.{◌≡◌, take}
use Rattle.unit_scope.proofs.members.copied_dims.Given as goal

abbrev pub invariant-loop-dim : goal.invariant-loop-dim
invariant-loop-dim l = l.all.items ≡ take l.dim-index l.dims
