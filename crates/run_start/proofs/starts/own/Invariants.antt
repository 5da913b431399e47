use Rattle.std.proofs.Common.{◌≡◌, drop, Some}
use Rattle.run_start.specs.Decks.{own_from}
use Rattle.run_start.proofs.starts.own.Given as goal

abbrev pub invariant-loop-rank : goal.invariant-loop-rank
invariant-loop-rank l = own_from l.sum (drop l.rank-index l.ranks) ≡ own_from (Some 0) l.ranks
