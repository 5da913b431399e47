use Rattle.std.proofs.Common.{◌≡◌, ◌+◌, length}
use Rattle.formula.specs.Pool.{AllBelow, tree_of}
use Rattle.fort_model.specs.Senses.{note}
use Rattle.path_sizes.specs.Weights.{of_weights}
use Rattle.weight_caps.specs.Capped.{capped}
use Rattle.weight_terms.specs.Held.{held}
use Rattle.weight_terms.proofs.Weighed.{waiting_weight, waiting_size}
use Rattle.weight_terms.proofs.terms.term_weight.Given as goal

abbrev pub invariant-loop-next : goal.invariant-loop-next
invariant-loop-next l = record {
  below : AllBelow (length l.pool) l.waiting;
  whole : capped l.all ≡ l.all;
  same : capped (l.all + waiting_weight l.pool (held l.told.before.now) (held l.told.behind.now) l.waiting) ≡ capped (note of_weights (held l.told.before.now) (held l.told.behind.now) (tree_of l.pool l.fn.id));
}

abbrev pub decreases-loop-next : goal.decreases-loop-next
decreases-loop-next l = waiting_size l.pool l.waiting
