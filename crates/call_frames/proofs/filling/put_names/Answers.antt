use Rattle.std.proofs.Common.{◌≡◌, suc, ◌+◌, ◌∙◌, take, arith}
use Rattle.formula.specs.Pool.{tree_of}
use Rattle.formula.proofs.Grown.{IsIn-Grows, tree_of-Grows}
use Rattle.walk_state.specs.Moments.{moment}
use Rattle.walk_state.proofs.Parts.{follows_then}
use Rattle.call_frames.specs.Frames.{all_shared, own_of, shared_in}
use Rattle.call_frames.proofs.Put.{filled_then, shared_more}
use Rattle.call_frames.proofs.filling.put_names.Goals as goal

pub put_data-requires-clause-well : goal.put_data-requires-clause-well
put_data-requires-clause-well c = c.loop-entity.invariant.on.kept

pub put_data-requires-clause-frame : goal.put_data-requires-clause-frame
put_data-requires-clause-frame c = c.loop-entity.invariant.filled.kept

pub put_data-requires-clause-value : goal.put_data-requires-clause-value
put_data-requires-clause-value c = IsIn-Grows c.args.walk.now.pool c.loop-entity.walk.pool c.args.value c.loop-entity.invariant.on.grows c.requires.value

pub loop-entity-preserved : goal.loop-entity-preserved
loop-entity-preserved c =
    let w0 = c.args.walk.now in
    let w1 = c.loop-entity.walk in
    let w2 = c.put_data.new.walk in
    let k = c.loop-entity.entity-index in
    let g = c.args.callee.now.unit.now in
    let next : k + 1 ≡ suc k = omega arith in
    record {
      on = follows_then w0 w1 w2 c.loop-entity.invariant.on c.put_data.ensures.on;
      same = c.put_data.ensures.same ∙ c.loop-entity.invariant.same;
      filled =
          filled_then w0.pool w1.pool w2.pool c.args.frame.now c.loop-entity.frame c.put_data.new.frame (all_shared (take k c.args.names.now)) (shared_in c.entity-item.result)
          (all_shared (take (k + 1) c.args.names.now)) (own_of g (moment w0).now (tree_of w0.pool c.args.value)) (own_of g (moment w1).now (tree_of w1.pool c.args.value))
          c.loop-entity.invariant.filled c.in_ok-put_data.ensures.filled
          (λ i. own_of g ((c.loop-entity.invariant.same i).now) (tree_of-Grows w0.pool w1.pool c.args.value c.loop-entity.invariant.on.grows c.requires.value i))
          (shared_more c.args.names.now k (k + 1) c.entity-item.result c.loop-entity-test.true c.entity-item.is next);
    }
