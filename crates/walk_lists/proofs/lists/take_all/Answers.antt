use Rattle.std.proofs.Common.{◌≡◌, suc, ◌+◌, ◌≤◌, length, get_or, arith}
use Rattle.formula.specs.Pool.{tree_of}
use Rattle.formula.proofs.Grown.{IsIn-Grows}
use Rattle.note_terms.proofs.Added.{below_at}
use Rattle.walk_state.specs.Moments.{moment}
use Rattle.walk_state.proofs.Parts.{follows_then}
use Rattle.walk_lists.proofs.Listed.{took_all, took_more, tree_stays}
use Rattle.walk_lists.proofs.lists.take_all.Goals as goal

pub take-requires-clause-fact : goal.take-requires-clause-fact
take-requires-clause-fact c =
    IsIn-Grows c.args.walk.now.pool c.loop-fact.walk.pool _ c.loop-fact.invariant.on.grows (below_at _ c.args.facts.now c.loop-fact.fact-index (record { place = 0 }) c.requires.facts c.loop-fact-test.true)

pub loop-fact-preserved : goal.loop-fact-preserved
loop-fact-preserved c =
    let w0 = c.args.walk.now in
    let w1 = c.loop-fact.walk in
    let w2 = c.take.new.self in
    let k = c.loop-fact.fact-index in
    let next : k + 1 ≡ suc k = omega arith in
    record {
      on = follows_then w0 w1 w2 c.loop-fact.invariant.on c.take.ensures.on;
      is =
          took_more (moment w0) (moment w1) (moment w2) w0.pool c.args.facts.now k (k + 1) (record { place = 0 }) (tree_of w1.pool (get_or c.args.facts.now k (record { place = 0 })))
          c.loop-fact.invariant.is c.in_ok-take.ensures.met (tree_stays w0.pool w1.pool c.args.facts.now k (record { place = 0 }) c.loop-fact.invariant.on.grows c.requires.facts c.loop-fact-test.true)
          c.loop-fact-test.true next;
    }

pub returns-clause-did : goal.returns-clause-did
returns-clause-did c =
    let over : length c.args.facts.now ≤ c.loop-fact.fact-index = omega (arith, c.loop-fact-test.false) in
    took_all (moment c.args.walk.now) (moment c.loop-fact.walk) c.args.walk.now.pool c.args.facts.now c.loop-fact.fact-index c.loop-fact.invariant.is over
