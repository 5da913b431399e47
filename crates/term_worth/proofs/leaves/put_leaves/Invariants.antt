use Rattle.std.proofs.Common.{◌-◌, ◌≤◌, length}
use Rattle.term_worth.specs.Leaves.{Prepares}
use Rattle.term_worth.proofs.leaves.put_leaves.Given as goal

-- the values of the arguments before this one were put
abbrev pub invariant-loop-ready : goal.invariant-loop-ready
invariant-loop-ready l = record {
  within : l.ready ≤ length l.args;
  same : Prepares l.pool l.definitions l.sheet l.args l.ready l.fn.machine l.machine;
}

abbrev pub decreases-loop-ready : goal.decreases-loop-ready
decreases-loop-ready l = length l.args - l.ready
