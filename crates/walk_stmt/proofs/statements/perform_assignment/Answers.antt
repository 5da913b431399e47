use Rattle.std.proofs.lemmas.Result.{on_ok_weaker}
use Rattle.formula.specs.Pool.{tree_of}
use Rattle.fort_model.specs.WalkExpr.{value}
use Rattle.fort_model.specs.WalkStmt.{assign}
use Rattle.walk_setting.proofs.Ready.{ready_on}
use Rattle.walk_state.specs.Moments.{moment}
use Rattle.walk_stmt.proofs.Parts.{assigned}
use Rattle.walk_stmt.proofs.Stands.{does_at, performs_at, ready_at}
use Rattle.walk_stmt.proofs.statements.perform_assignment.Goals as goal

pub value-requires-clause-ready : goal.value-requires-clause-ready
value-requires-clause-ready c = ready_at c.args.walk.now.pool c.at_card.result.setting.now c.args.at.now.flow.now.setting.now c.at_card.ensures.setting c.requires.ready

pub assign-requires-clause-ready : goal.assign-requires-clause-ready
assign-requires-clause-ready c =
    let s = c.args.at.now.flow.now.setting.now in
    ready_at c.value.new.walk.pool c.at_card-2.result.setting.now s c.at_card-2.ensures.setting (ready_on c.args.walk.now.pool c.value.new.walk.pool s.scene.now c.value.ensures.on.grows c.requires.ready)

pub returns-clause-did : goal.returns-clause-did
returns-clause-did c =
    let at = c.args.at.now in
    let s = at.flow.now.setting.now in
    let w0 = c.args.walk.now in
    let w1 = c.value.new.walk in
    let w2 = c.assign.new.walk in
    let w3 = c.behind.new.walk in
    let v = tree_of w1.pool c.in_ok-term.term in
    on_ok_weaker c.behind.result
    (assigned s at.card at.point c.args.choices.now w0 w1 w2 w3 c.value.ensures.on.grows c.assign.ensures.on.grows c.args.left.now c.args.right.now v
    (does_at w0.pool (moment w0) (moment w1) (λ k w. value w k (moment w0).now c.args.right.now) v c.at_card.result.setting.now s c.at_card.result.number at.card c.at_card.ensures.setting c.at_card.ensures.number c.in_ok-term.ensures.did)
    (performs_at w1.pool (moment w1) (moment w2) (λ k w. assign w k (moment w1).now c.args.left.now v) c.at_card-2.result.setting.now s c.at_card-2.result.number at.card c.at_card-2.ensures.setting c.at_card-2.ensures.number
    c.in_ok-assign.ensures.did))
    c.behind.ensures.did
