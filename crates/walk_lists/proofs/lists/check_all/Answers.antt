use Rattle.std.proofs.Common.{◌≡◌, suc, ◌+◌, ◌≤◌, length, get_or, arith}
use Rattle.formula.specs.Pool.{tree_of}
use Rattle.formula.proofs.Grown.{IsIn-Grows}
use Rattle.note_terms.proofs.Added.{below_at}
use Rattle.walk_state.specs.Moments.{moment}
use Rattle.walk_state.proofs.Parts.{follows_then}
use Rattle.walk_lists.proofs.Listed.{checked_all, checked_more, tree_stays}
use Rattle.walk_lists.proofs.lists.check_all.Goals as goal

pub check-requires-clause-goal : goal.check-requires-clause-goal
check-requires-clause-goal c =
    IsIn-Grows c.args.walk.now.pool c.loop-goal.walk.pool _ c.loop-goal.invariant.on.grows (below_at _ c.args.goals.now c.loop-goal.goal-index (record { place = 0 }) c.requires.goals c.loop-goal-test.true)

pub loop-goal-preserved : goal.loop-goal-preserved
loop-goal-preserved c =
    let w0 = c.args.walk.now in
    let w1 = c.loop-goal.walk in
    let w2 = c.check.new.self in
    let k = c.loop-goal.goal-index in
    let next : k + 1 ≡ suc k = omega arith in
    record {
      on = follows_then w0 w1 w2 c.loop-goal.invariant.on c.check.ensures.on;
      is =
          checked_more (moment w0) (moment w1) (moment w2) w0.pool c.args.kind c.args.card c.args.goals.now k (k + 1) (record { place = 0 }) (tree_of w1.pool (get_or c.args.goals.now k (record { place = 0 })))
          c.loop-goal.invariant.is c.in_ok-check.ensures.met (tree_stays w0.pool w1.pool c.args.goals.now k (record { place = 0 }) c.loop-goal.invariant.on.grows c.requires.goals c.loop-goal-test.true)
          c.loop-goal-test.true next;
    }

pub returns-clause-did : goal.returns-clause-did
returns-clause-did c =
    let over : length c.args.goals.now ≤ c.loop-goal.goal-index = omega (arith, c.loop-goal-test.false) in
    checked_all (moment c.args.walk.now) (moment c.loop-goal.walk) c.args.walk.now.pool c.args.kind c.args.card c.args.goals.now c.loop-goal.goal-index c.loop-goal.invariant.is over
