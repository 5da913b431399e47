use Rattle.std.proofs.Common.{◌≡◌, drop}
use Rattle.run_ranks.specs.Owns.{longest_from}
use Rattle.run_ranks.proofs.owns.longest.Given as goal

abbrev pub invariant-loop-line : goal.invariant-loop-line
invariant-loop-line l = longest_from l.most (drop l.line-index l.lines) ≡ longest_from 0 l.lines
