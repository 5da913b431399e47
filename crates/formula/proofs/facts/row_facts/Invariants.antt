use Rattle.std.proofs.Common.{◌≡◌, ◌≤◌, drop, length}
use Rattle.formula.specs.Facts.{row_facts_in}
use Rattle.formula.proofs.facts.row_facts.Given as goal

abbrev pub invariant-loop-left : goal.invariant-loop-left
invariant-loop-left l = record {
  within : l.left ≤ length l.args;
  so_far : l.all ≡ row_facts_in l.facts (drop l.left l.args);
}

abbrev pub decreases-loop-left : goal.decreases-loop-left
decreases-loop-left l = l.left
