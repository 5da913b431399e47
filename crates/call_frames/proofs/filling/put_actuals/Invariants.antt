use Rattle.std.proofs.Common.{◌≡◌, ◌≤◌, drop, length}
use Rattle.note_terms.specs.Stated.{trees_in}
use Rattle.walk_state.specs.Moments.{Follows, moment}
use Rattle.call_frames.specs.Frames.{IsPlaced}
use Rattle.call_frames.proofs.filling.put_actuals.Given as goal

abbrev pub invariant-loop-k : goal.invariant-loop-k
invariant-loop-k l = record {
  on : Follows l.fn.walk l.walk;
  same : moment l.walk ≡ moment l.fn.walk;
  few : l.k ≤ length l.dummies;
  less : l.k ≤ length l.actuals;
  placed : IsPlaced l.fn.walk.pool l.fn.frame l.walk.pool l.frame (drop l.k l.dummies) (drop l.k (trees_in l.fn.walk.pool l.actuals));
}

abbrev pub decreases-loop-k : goal.decreases-loop-k
decreases-loop-k l = l.k
