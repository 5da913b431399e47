use Rattle.std.proofs.Common.{ℕ, ◌<◌, ◌≤◌}
use Rattle.formula.specs.Facts.{depth}
use Rattle.formula.specs.Pool.{tree_at, trees}
use Rattle.event_text.proofs.writing_stack.deepest.Given as goal

abbrev pub invariant-loop-place : goal.invariant-loop-place
invariant-loop-place l = (j : ℕ) → j < l.place → depth (tree_at (trees l.pool) j) ≤ l.most
