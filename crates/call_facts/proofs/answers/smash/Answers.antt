use Rattle.std.proofs.Common.{◌≡◌, suc, ◌+◌, ◌≤◌, ◌∙◌, length, take, arith}
use Rattle.formula.specs.Pool.{tree_of}
use Rattle.fort_model.specs.WalkCalls.{changed}
use Rattle.walk_state.specs.Moments.{moment, with_names}
use Rattle.walk_state.proofs.Parts.{follows_then}
use Rattle.call_facts.specs.Calls.{called}
use Rattle.call_facts.proofs.Behind.{changed_more, taken_all, taken_more}
use Rattle.call_facts.proofs.answers.smash.Goals as goal

pub loop-name-preserved : goal.loop-name-preserved
loop-name-preserved c =
    let w0 = c.args.walk.now in
    let w1 = c.loop-name.walk in
    let w2 = c.answer.new.self in
    let w3 = c.set.new.self in
    let k = c.loop-name.name-index in
    let next : k + 1 ≡ suc k = omega arith in
    record {
      on = follows_then w0 w2 w3 (follows_then w0 w1 w2 c.loop-name.invariant.on c.answer.ensures.on) c.set.ensures.on;
      is = λ w. changed_more w (called c.args.number) (moment w0) (moment w1) (moment w2) (moment w3) (take k c.args.names.now) (take (k + 1) c.args.names.now) c.name-item.result
          (tree_of w2.pool c.in_ok-symbol.symbol) (c.loop-name.invariant.is w) c.answer.ensures.same c.in_ok-set.ensures.set c.in_ok-symbol.ensures.tree
          (taken_more c.args.names.now k (k + 1) c.name-item.result c.loop-name-test.true c.name-item.is next);
    }

pub returns-clause-smashed : goal.returns-clause-smashed
returns-clause-smashed c w =
    let m0 = moment c.args.walk.now in
    let k = c.loop-name.name-index in
    let over : length c.args.names.now ≤ k = omega (arith, c.loop-name-test.false) in
    c.loop-name.invariant.is w ∙ (λ i. with_names m0 (changed w (taken_all c.args.names.now k over i) (called c.args.number) m0.now))
