use Rattle.std.proofs.Common.{◌≡◌, ◌≤◌, ℕ, drop, length}
use Rattle.fort_model.specs.WalkCalls.{Sight, with_actuals}
use Rattle.weight_terms.specs.Held.{held}
use Rattle.weight_calls.proofs.seen.set_actuals.Given as goal

abbrev pub invariant-loop-left : goal.invariant-loop-left
invariant-loop-left l = record {
  dummies : l.left ≤ length l.dummies;
  weights : l.left ≤ length l.weights;
  told : (w : Sight ℕ) → held l.table ≡ with_actuals w (drop l.left l.dummies) (drop l.left l.weights) (held l.fn.table);
}

abbrev pub decreases-loop-left : goal.decreases-loop-left
decreases-loop-left l = l.left
