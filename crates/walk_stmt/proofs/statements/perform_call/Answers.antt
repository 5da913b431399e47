use Rattle.std.proofs.Common.{List, length, sym, subst}
use Rattle.std.proofs.lemmas.Result.{on_ok_weaker}
use Rattle.formula.specs.Pool.{tree_of}
use Rattle.fort_model.specs.WalkCalls.{call}
use Rattle.fort_model.specs.WalkExpr.{operands}
use Rattle.fort_syntax.specs.TreePatterns.{row_of}
use Rattle.walk_calls.specs.Calls.{CallsIn}
use Rattle.walk_operands.specs.Operands.{AreOperandsIn, operand_trees}
use Rattle.walk_operands.specs.declared.operand.Operand.{Operand}
use Rattle.walk_setting.proofs.Ready.{ready_on}
use Rattle.walk_state.specs.Moments.{moment}
use Rattle.walk_stmt.proofs.Parts.{called}
use Rattle.walk_stmt.proofs.Stands.{does_at, ready_at}
use Rattle.walk_stmt.proofs.statements.perform_call.Goals as goal

pub operands-requires-clause-ready : goal.operands-requires-clause-ready
operands-requires-clause-ready c = ready_at c.args.walk.now.pool c.at_card.result.setting.now c.args.at.now.flow.now.setting.now c.at_card.ensures.setting c.requires.ready

pub call-requires-clause-ready : goal.call-requires-clause-ready
call-requires-clause-ready c = ready_on c.args.walk.now.pool c.operands.new.walk.pool c.args.at.now.flow.now.setting.now.scene.now c.operands.ensures.on.grows c.requires.ready

pub call-requires-clause-operands : goal.call-requires-clause-operands
call-requires-clause-operands c = subst (AreOperandsIn (length c.operands.new.walk.pool)) (sym c.as_slice.ensures.value) c.in_ok-actuals.ensures.is_in

pub returns-clause-did : goal.returns-clause-did
returns-clause-did c =
    let at = c.args.at.now in
    let s = at.flow.now.setting.now in
    let w0 = c.args.walk.now in
    let w1 = c.operands.new.walk in
    let w2 = c.call.new.walk in
    let w3 = c.behind.new.walk in
    let xs = operand_trees w1.pool c.in_ok-actuals.actuals.items in
    let v = tree_of w2.pool c.in_ok-call.field-0 in
    on_ok_weaker c.behind.result
    (called s at.card at.point c.args.choices.now w0 w1 w2 w3 c.operands.ensures.on.grows c.call.ensures.on.grows c.args.called.now c.args.args.now c.subroutine-callee.result xs v c.subroutine-callee.ensures.number
    (does_at w0.pool (moment w0) (moment w1) (λ k w. operands w k (moment w0).now (row_of c.args.args.now)) xs c.at_card.result.setting.now s c.at_card.result.number at.card c.at_card.ensures.setting c.at_card.ensures.number
    c.in_ok-actuals.ensures.did)
    (subst (λ (ys : List Operand). CallsIn w1.pool s (moment w1) (λ w. call w at.card c.subroutine-callee.result (moment w1).now (operand_trees w1.pool ys)) (moment w2) v) c.as_slice.ensures.value c.in_ok-call.ensures.did))
    c.behind.ensures.did
