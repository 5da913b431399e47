use Rattle.std.proofs.Common.{◌≡◌, ◌-◌, drop, length}
use Rattle.stmt_parse.specs.Writing.{write_expression, write_more}
use Rattle.stmt_parse.proofs.writing.+written.Given as goal

abbrev pub invariant-write_more_arguments-loop-i : goal.invariant-write_more_arguments-loop-i
invariant-write_more_arguments-loop-i l =
    write_more write_expression (drop l.i l.args) l.out.items ≡ write_more write_expression (drop 1 l.args) l.initial.out.items

abbrev pub decreases-write_more_arguments-loop-i : goal.decreases-write_more_arguments-loop-i
decreases-write_more_arguments-loop-i l = length l.args - l.i
