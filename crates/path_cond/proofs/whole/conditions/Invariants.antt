use Rattle.path_cond.proofs.Stepwise.{Counted}
use Rattle.path_cond.proofs.whole.conditions.Given as goal

abbrev pub invariant-loop-number : goal.invariant-loop-number
invariant-loop-number l = Counted l.scene l.fn.pool l.drafts l.number
