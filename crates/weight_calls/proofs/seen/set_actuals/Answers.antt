use Rattle.std.proofs.Common.{◌≡◌, suc, ◌-◌, drop, length, sym, ◌∙◌, arith}
use Rattle.fort_model.specs.WalkCalls.{with_actuals}
use Rattle.weight_terms.specs.Held.{held}
use Rattle.weight_calls.proofs.CalledNames.{min_end, no_actual, one_actual}
use Rattle.weight_calls.proofs.seen.set_actuals.Goals as goal

pub loop-left-init : goal.loop-left-init
loop-left-init c = record {
  dummies = omega arith;
  weights = omega arith;
  told = λ w. sym (no_actual w (held c.args.table.now) c.args.dummies.now c.args.weights.now c.min-left.result (min_end (length c.args.dummies.now) (length c.args.weights.now) c.min-left.result c.min-left.ensures));
}

pub loop-left-preserved : goal.loop-left-preserved
loop-left-preserved c =
    let next : c.loop-left.left ≡ suc (c.loop-left.left - 1) = omega arith in
    record {
      dummies = omega arith;
      weights = omega arith;
      told = λ w.
          one_actual w (held c.args.table.now) c.args.dummies.now c.args.weights.now (c.loop-left.left - 1) c.loop-left.left c.index-dummies-left.result (held c.loop-left.table) (held c.set.new.self) next
          c.loop-left.invariant.dummies c.loop-left.invariant.weights c.index-dummies-left.is (c.loop-left.invariant.told w) c.in-Ok.ensures.weights;
    }

pub returns : goal.returns
returns c = λ w.
    let done : c.loop-left.left ≡ 0 = omega arith in
    c.loop-left.invariant.told w ∙ (λ i. with_actuals w (drop (done i) c.args.dummies.now) (drop (done i) c.args.weights.now) (held c.args.table.now))
