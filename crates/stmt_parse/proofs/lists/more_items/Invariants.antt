use Rattle.std.proofs.Common.{◌≡◌}
use Rattle.stmt_parse.specs.Statements.{more_of, item_at}
use Rattle.stmt_parse.proofs.lists.more_items.Given as goal

abbrev pub invariant-loop-left : goal.invariant-loop-left
invariant-loop-left l = more_of (item_at l.rounds) l.left l.all.items l.rest ≡ more_of (item_at l.rounds) l.rounds l.fn.first.items l.text

abbrev pub decreases-loop-left : goal.decreases-loop-left
decreases-loop-left l = l.left
