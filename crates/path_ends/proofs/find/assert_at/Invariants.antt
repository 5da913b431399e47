use Rattle.std.proofs.Common.{◌≡◌, drop}
use Rattle.path_ends.specs.Ends.{first_at}
use Rattle.path_ends.proofs.find.assert_at.Given as goal

abbrev pub invariant-loop-assert : goal.invariant-loop-assert
invariant-loop-assert l = first_at (drop l.assert-index l.asserts) l.point ≡ first_at l.asserts l.point
