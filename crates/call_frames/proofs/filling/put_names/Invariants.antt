use Rattle.std.proofs.Common.{◌≡◌, take}
use Rattle.formula.specs.Pool.{tree_of}
use Rattle.walk_state.specs.Moments.{Follows, moment}
use Rattle.call_frames.specs.Frames.{IsFilled, all_shared, own_of}
use Rattle.call_frames.proofs.filling.put_names.Given as goal

abbrev pub invariant-loop-entity : goal.invariant-loop-entity
invariant-loop-entity l = record {
  on : Follows l.fn.walk l.walk;
  same : moment l.walk ≡ moment l.fn.walk;
  filled : IsFilled l.fn.walk.pool l.fn.frame l.walk.pool l.frame (all_shared (take l.entity-index l.names)) (own_of l.callee.unit.now (moment l.fn.walk).now (tree_of l.fn.walk.pool l.value));
}
