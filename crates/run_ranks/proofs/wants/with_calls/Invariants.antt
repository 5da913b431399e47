use Rattle.std.proofs.Common.{◌≡◌, drop}
use Rattle.run_ranks.specs.Raised.{own_wants, with_calls}
use Rattle.run_ranks.proofs.wants.with_calls.Given as goal

abbrev pub invariant-loop-call : goal.invariant-loop-call
invariant-loop-call l = with_calls l.codes l.ranks l.rank l.wants (drop l.call-index l.calls) ≡ with_calls l.codes l.ranks l.rank (own_wants l.rank) l.calls
