use Rattle.std.proofs.Common.{rules, arith}
use Rattle.stmt_parse.specs.Statements.{item_at}
use Rattle.stmt_parse.proofs.Rounds.{more_of_step}
use Rattle.stmt_parse.proofs.lists.more_items.Goals as goal

pub loop-left-preserved : goal.loop-left-preserved
loop-left-preserved c =
    more_of_step (item_at c.args.rounds) c.loop-left.left c.loop-left.all.items c.pushed_item.new.all.items c.loop-left.rest.now c.in_ok-next.behind.now c.in_ok-next.next _
    (omega arith) (search rules) (search rules) c.in_ok-pushed_item.ensures.ok c.loop-left.invariant
