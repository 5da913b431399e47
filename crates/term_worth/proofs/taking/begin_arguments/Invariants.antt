use Rattle.std.proofs.Common.{◌≡◌, ◌∷◌, ◌++◌, ◌≤◌, length, map, drop}
use Rattle.term_worth.specs.declared.machine.Task.TheVariants as task
use Rattle.term_worth.proofs.taking.begin_arguments.Given as goal

-- the arguments from here on are tasks
abbrev pub invariant-loop-left : goal.invariant-loop-left
invariant-loop-left l = record {
  ready : l.ready ≤ l.left;
  within : l.left ≤ length l.args;
  same : l.machine ≡ record l.fn.machine { tasks = map task.Eval (drop l.left l.args) ++ task.Combine l.fn.f (length l.args) ∷ l.fn.machine.tasks };
}

abbrev pub decreases-loop-left : goal.decreases-loop-left
decreases-loop-left l = l.left
