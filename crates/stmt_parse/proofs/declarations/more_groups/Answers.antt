use Rattle.std.proofs.Common.{rules, arith}
use Rattle.stmt_parse.proofs.Rounds.{more_groups_step}
use Rattle.stmt_parse.proofs.declarations.more_groups.Goals as goal

pub loop-left-preserved : goal.loop-left-preserved
loop-left-preserved c =
    more_groups_step c.args.rounds c.loop-left.left c.loop-left.all.items c.pushed_group.new.all.items c.loop-left.rest.now c.in_ok-next.behind.now c.in_ok-next.next _
    (omega arith) (search rules) (search rules) c.in_ok-pushed_group.ensures.ok c.loop-left.invariant
