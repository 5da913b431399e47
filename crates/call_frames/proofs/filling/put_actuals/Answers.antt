use Rattle.std.proofs.Common.{◌≡◌, ◌-◌, ◌<◌, ◌≤◌, suc, min, length, get_or, refl, ◌∙◌, arith}
use Rattle.formula.specs.Pool.{tree_of}
use Rattle.formula.proofs.Grown.{IsIn-Grows, tree_of-Grows}
use Rattle.note_terms.proofs.Added.{below_at}
use Rattle.walk_state.proofs.Parts.{follows_not, follows_then}
use Rattle.call_frames.proofs.Placed.{placed_more, placed_none}
use Rattle.call_frames.proofs.filling.put_actuals.Goals as goal

pub loop-k-init : goal.loop-k-init
loop-k-init c =
    let ds = c.args.dummies.now in
    let ids = c.args.actuals.now in
    let few : c.min-k.result ≤ length ds = omega (arith, c.min-k.ensures) in
    let less : c.min-k.result ≤ length ids = omega (arith, c.min-k.ensures) in
    let over : min (length ds) (length ids) ≤ c.min-k.result = omega (arith, c.min-k.ensures) in
    record {
      on = follows_not c.args.walk.now c.requires.well;
      same = refl;
      few = few;
      less = less;
      placed = placed_none c.args.walk.now.pool c.args.frame.now ds ids c.min-k.result c.requires.frame over;
    }

pub put-requires-clause-id : goal.put-requires-clause-id
put-requires-clause-id c =
    let k = c.loop-k.k in
    let lt : k - 1 < length c.args.actuals.now = omega (arith, c.loop-k.invariant.less, c.loop-k-test.true) in
    IsIn-Grows c.args.walk.now.pool c.loop-k.walk.pool (get_or c.args.actuals.now (k - 1) (record { place = 0 })) c.loop-k.invariant.on.grows
    (below_at (length c.args.walk.now.pool) c.args.actuals.now (k - 1) (record { place = 0 }) c.requires.actuals lt)

pub loop-k-preserved : goal.loop-k-preserved
loop-k-preserved c =
    let w0 = c.args.walk.now in
    let w1 = c.loop-k.walk in
    let w2 = c.put.new.walk in
    let ds = c.args.dummies.now in
    let ids = c.args.actuals.now in
    let k = c.loop-k.k in
    let x = c.index-dummies-k.result in
    let id = get_or ids (k - 1) (record { place = 0 }) in
    let fewer : k - 1 ≤ length ds = omega (arith, c.loop-k.invariant.few) in
    let lesser : k - 1 ≤ length ids = omega (arith, c.loop-k.invariant.less) in
    let here : k - 1 < length ds = omega (arith, c.loop-k.invariant.few, c.loop-k-test.true) in
    let there : k - 1 < length ids = omega (arith, c.loop-k.invariant.less, c.loop-k-test.true) in
    let next : k ≡ suc (k - 1) = omega (arith, c.loop-k-test.true) in
    record {
      on = follows_then w0 w1 w2 c.loop-k.invariant.on c.put.ensures.on;
      same = c.put.ensures.same ∙ c.loop-k.invariant.same;
      few = fewer;
      less = lesser;
      placed =
          placed_more w0.pool w1.pool w2.pool c.args.frame.now c.loop-k.frame c.put.new.frame (tree_of w0.pool) ds ids (k - 1) k x x (record { place = 0 }) (tree_of w1.pool id)
          c.loop-k.invariant.placed c.in_ok-put.ensures.put c.index-dummies-k.is
          (tree_of-Grows w0.pool w1.pool id c.loop-k.invariant.on.grows (below_at (length w0.pool) ids (k - 1) (record { place = 0 }) c.requires.actuals there))
          next here there;
    }
