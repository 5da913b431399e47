use Rattle.std.proofs.Common.{◌≡◌}
use Rattle.stmt_parse.specs.Statements.{more_of, dim_at}
use Rattle.stmt_parse.proofs.lists.more_dims.Given as goal

abbrev pub invariant-loop-left : goal.invariant-loop-left
invariant-loop-left l = more_of dim_at l.left l.all.items l.rest ≡ more_of dim_at l.rounds l.fn.first.items l.text

abbrev pub decreases-loop-left : goal.decreases-loop-left
decreases-loop-left l = l.left
