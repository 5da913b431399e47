use Rattle.std.proofs.Common.{◌≡◌}
use Rattle.formula.specs.Bounded.{and_then, got, bounded}
use Rattle.term_worth.specs.Machine.{IsWhole, meaning, work_of}
use Rattle.formula.specs.Pool.{tree_of}
use Rattle.formula.specs.Worth.{functions_of, assigned, nothing_known}
use Rattle.term_worth.proofs.evaluation.worth.Given as goal

-- what the work left comes to is the worth
abbrev pub invariant-loop-task : goal.invariant-loop-task
invariant-loop-task l = record {
  same : meaning l.pool l.definitions l.sheet l.machine ≡ and_then (bounded (functions_of l.pool l.definitions) (assigned l.sheet) nothing_known (tree_of l.pool l.fn.id) l.fn.turns) (λ v m. got v m);
  whole : IsWhole l.pool l.machine;
}

abbrev pub decreases-loop-task : goal.decreases-loop-task
decreases-loop-task l = work_of l.pool l.definitions l.sheet l.machine
