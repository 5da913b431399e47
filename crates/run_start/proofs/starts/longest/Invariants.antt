use Rattle.std.proofs.Common.{◌≡◌, drop}
use Rattle.run_start.specs.Decks.{longest_rank}
use Rattle.run_start.proofs.starts.longest.Given as goal

abbrev pub invariant-loop-rank : goal.invariant-loop-rank
invariant-loop-rank l = longest_rank l.most (drop l.rank-index l.ranks) ≡ longest_rank 1 l.ranks
