use Rattle.std.proofs.Common.{◌≡◌, ◌≤◌, length, drop}
use Rattle.formula.specs.Atoms.{has_twin}
use Rattle.formula.specs.Parameters.{HaveSameWords}
use Rattle.formula.proofs.candidate.table_of.Given as goal

-- the words from `left` on are in the table
abbrev pub invariant-loop-left : goal.invariant-loop-left
invariant-loop-left l = record {
  within : l.left ≤ length l.words;
  words : HaveSameWords l.table.keys (drop l.left l.words);
  twin : l.twin ≡ has_twin (drop l.left l.words);
}

abbrev pub decreases-loop-left : goal.decreases-loop-left
decreases-loop-left l = l.left
