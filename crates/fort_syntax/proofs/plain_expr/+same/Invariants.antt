use Rattle.std.proofs.Common.{◌≡◌, take}
use Rattle.fort_syntax.proofs.plain_expr.+same.Given as goal

abbrev pub invariant-are_same_args-loop-i : goal.invariant-are_same_args-loop-i
invariant-are_same_args-loop-i l = take l.i l.xs ≡ take l.i l.ys
