use Rattle.std.proofs.Common.{◌≡◌, Some}
use Rattle.std.proofs.lemmas.Result.{IfOk-weaker}
use Rattle.formula.specs.Pool.{tree_of}
use Rattle.fort_model.specs.Senses.{of_terms, undefined}
use Rattle.fort_model.specs.WalkCalls.{call}
use Rattle.walk_calls.specs.Calls.{CallsIn}
use Rattle.walk_operands.specs.Operands.{operand_trees}
use Rattle.walk_state.specs.Moments.{moment}
use Rattle.walk_calls.proofs.Numbered.{called_as, called_none}
use Rattle.walk_calls.proofs.calls.call.Goals as goal

pub returns-in-Some-clause-did : goal.returns-in-Some-clause-did
returns-in-Some-clause-did c =
    let w0 = c.args.walk.now in
    let w1 = c.call_number.new.walk in
    let s = c.args.setting.now in
    let m = moment w0 in
    let xs = operand_trees w0.pool c.args.operands.now in
    IfOk-weaker c.call_number.result (λ id. CallsIn w0.pool s m (λ w. call w c.args.card (Some c.in-Some.number) m.now xs) (moment w1) (tree_of w1.pool id))
    (λ id. CallsIn w0.pool s m (λ w. call w c.args.card c.args.callee m.now xs) (moment w1) (tree_of w1.pool id))
    (λ id h. called_as w0.pool s c.args.card xs m (moment w1) (tree_of w1.pool id) (Some c.in-Some.number) c.args.callee c.in-Some.is h)
    c.call_number.ensures.did

pub returns-in-None-clause-did : goal.returns-in-None-clause-did
returns-in-None-clause-did c =
    let w0 = c.args.walk.now in
    let w1 = c.call_nothing.new.walk in
    let s = c.args.setting.now in
    let m = moment w0 in
    let xs = operand_trees w0.pool c.args.operands.now in
    IfOk-weaker c.call_nothing.result (λ id. tree_of w1.pool id ≡ undefined of_terms)
    (λ id. CallsIn w0.pool s m (λ w. call w c.args.card c.args.callee m.now xs) (moment w1) (tree_of w1.pool id))
    (λ id none. called_as w0.pool s c.args.card xs m (moment w1) (tree_of w1.pool id) _ c.args.callee c.in-None.is (called_none w0.pool s c.args.card xs m (moment w1) (tree_of w1.pool id) c.call_nothing.ensures.same none))
    c.call_nothing.ensures.tree
