use Rattle.std.proofs.lemmas.Result.{on_ok_weaker}
use Rattle.walk_choices.specs.Choices.{is_false}
use Rattle.walk_state.specs.Moments.{moment}
use Rattle.walk_stmt.proofs.Parts.{passed}
use Rattle.walk_stmt.proofs.Stands.{does_at, ready_at}
use Rattle.walk_stmt.proofs.statements.pass_carried.Goals as goal

pub is_false-requires-clause-ready : goal.is_false-requires-clause-ready
is_false-requires-clause-ready c = ready_at c.args.walk.now.pool c.at_card.result.setting.now c.args.at.now.flow.now.setting.now c.at_card.ensures.setting c.requires.ready

pub returns-clause-did : goal.returns-clause-did
returns-clause-did c =
    let at = c.args.at.now in
    let s = at.flow.now.setting.now in
    let w0 = c.args.walk.now in
    let w1 = c.is_false.new.walk in
    let w2 = c.behind.new.walk in
    on_ok_weaker c.behind.result
    (passed s at.card at.point c.args.choices.now w0 w1 w2 c.args.e.now c.is_false.ensures.on.grows
    (does_at w0.pool (moment w0) (moment w1) (λ k w. is_false w k (moment w0).now c.args.e.now) tt c.at_card.result.setting.now s c.at_card.result.number at.card c.at_card.ensures.setting c.at_card.ensures.number c.in_ok-is_false.ensures.did))
    c.behind.ensures.did
