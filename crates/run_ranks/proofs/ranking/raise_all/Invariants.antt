use Rattle.std.proofs.Common.{◌≡◌, drop}
use Rattle.run_ranks.specs.Raised.{all_raised}
use Rattle.run_ranks.proofs.ranking.raise_all.Given as goal

abbrev pub invariant-loop-i : goal.invariant-loop-i
invariant-loop-i l = all_raised l.codes l.ranks.items (drop l.i-index l.order) ≡ all_raised l.codes l.fn.ranks.items l.order
