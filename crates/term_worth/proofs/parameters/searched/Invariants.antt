use Rattle.std.proofs.Common.{◌≡◌, ◌≤◌, ◌-◌, length, drop}
use Rattle.term_worth.specs.Machine.{argument_of}
use Rattle.term_worth.proofs.parameters.searched.Given as goal

-- the parameters from here on decide
abbrev pub invariant-loop-place : goal.invariant-loop-place
invariant-loop-place l = record {
  params : l.place ≤ length l.params;
  args : l.place ≤ length l.args;
  same : argument_of l.params l.args l.name ≡ argument_of (drop l.place l.params) (drop l.place l.args) l.name;
}

abbrev pub decreases-loop-place : goal.decreases-loop-place
decreases-loop-place l = length l.params - l.place
