use Rattle.std.proofs.Common.{◌≡◌, ◌++◌, ◌-◌, length, drop}
use Rattle.run_ranks.specs.Owns.{own_ranks}
use Rattle.run_ranks.proofs.owns.own_ranks.Given as goal

abbrev pub invariant-loop-i : goal.invariant-loop-i
invariant-loop-i l = l.ranks.items ++ own_ranks (drop l.i l.units) (drop l.i l.codes) ≡ own_ranks l.units l.codes

abbrev pub decreases-loop-i : goal.decreases-loop-i
decreases-loop-i l = length l.units - l.i
