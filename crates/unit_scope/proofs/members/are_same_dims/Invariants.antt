use Rattle.std.proofs.Common.{◌≡◌, drop}
use Rattle.fort_syntax.specs.Scopes.{same_dims}
use Rattle.unit_scope.proofs.members.are_same_dims.Given as goal

abbrev pub invariant-loop-i : goal.invariant-loop-i
invariant-loop-i l = same_dims (drop l.i l.a) (drop l.i l.b) ≡ same_dims l.a l.b
