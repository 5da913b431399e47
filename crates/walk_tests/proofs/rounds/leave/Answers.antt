use Rattle.std.proofs.lemmas.Result.{on_ok_weaker}
use Rattle.formula.specs.Pool.{tree_of}
use Rattle.walk_setting.proofs.Done.{performs_then}
use Rattle.walk_state.specs.Moments.{moment}
use Rattle.walk_tests.specs.Rounds.{next_and_last, without_next}
use Rattle.walk_tests.proofs.rounds.leave.Goals as goal

pub returns-clause-did : goal.returns-clause-did
returns-clause-did c =
    let s = c.args.card.now.setting.now in
    let card = c.args.card.now.number in
    let d = c.args.test.now in
    let w0 = c.args.walk.now in
    let w1 = c.bounds_of.new.walk in
    on_ok_weaker c.without_next.result
    (λ h. performs_then s w0 w1 c.without_next.new.walk (λ w. next_and_last w card (moment w0).now d) (λ w now b. without_next w card now d b)
    (tree_of w1.pool c.in_ok-both.both.next, tree_of w1.pool c.in_ok-both.both.last) c.bounds_of.ensures.on.grows c.in_ok-both.ensures.did h)
    c.without_next.ensures.did
