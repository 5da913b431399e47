use Rattle.std.proofs.Common.{rules, arith}
use Rattle.stmt_parse.specs.Parsing.{parse}
use Rattle.stmt_parse.proofs.Rounds.{more_arguments_step}
use Rattle.stmt_parse.proofs.expressions.+parse.Goals as goal

pub more_arguments-loop-left-preserved : goal.more_arguments-loop-left-preserved
more_arguments-loop-left-preserved t c =
    more_arguments_step (parse c.args.rounds) c.loop-left.left c.loop-left.all.items c.pushed.new.all.items c.loop-left.rest.now c.in_ok-next.behind.now c.in_ok-next.next _
    (omega arith) (search rules) (search rules) c.in_ok-pushed.ensures.ok c.loop-left.invariant
