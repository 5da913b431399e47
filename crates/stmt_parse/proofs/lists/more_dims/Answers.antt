use Rattle.std.proofs.Common.{rules, arith}
use Rattle.stmt_parse.specs.Statements.{dim_at}
use Rattle.stmt_parse.proofs.Rounds.{more_of_step}
use Rattle.stmt_parse.proofs.lists.more_dims.Goals as goal

pub loop-left-preserved : goal.loop-left-preserved
loop-left-preserved c =
    more_of_step dim_at c.loop-left.left c.loop-left.all.items c.pushed_dim.new.all.items c.loop-left.rest.now c.in-Some.behind.now c.in-Some.next _
    (omega arith) (search rules) (search rules) (search rules) c.loop-left.invariant
