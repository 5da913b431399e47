use Rattle.std.proofs.Common.{◌≡◌, take}
use Rattle.fort_syntax.proofs.plain_expr.+copied.Given as goal

abbrev pub invariant-copied_args-loop-e : goal.invariant-copied_args-loop-e
invariant-copied_args-loop-e l = l.all.items ≡ take l.e-index l.args
