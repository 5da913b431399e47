use Rattle.std.proofs.lemmas.Result.{IfOk-weaker}
use Rattle.formula.specs.Pool.{tree_of}
use Rattle.fort_model.specs.WalkCalls.{call}
use Rattle.walk_calls.specs.Calls.{CallsIn, value_of_call}
use Rattle.walk_operands.specs.Operands.{operand_trees}
use Rattle.walk_setting.specs.Settings.{DoesIn, seen_from}
use Rattle.walk_state.specs.Moments.{moment}
use Rattle.walk_calls.proofs.Chained.{kept_done}
use Rattle.walk_calls.proofs.Referred.{names_kept}
use Rattle.walk_calls.proofs.calls.refer.Goals as goal

pub returns-clause-did : goal.returns-clause-did
returns-clause-did c =
    let w0 = c.args.walk.now in
    let w1 = c.call.new.walk in
    let s = c.args.setting.now in
    let m = moment w0 in
    let xs = operand_trees w0.pool c.args.operands.now in
    let f = c.requires.function in
    IfOk-weaker c.call.result (λ id. CallsIn w0.pool s m (λ w. call w c.args.card c.args.callee m.now xs) (moment w1) (tree_of w1.pool id))
    (λ id. DoesIn w0.pool s m (λ w. value_of_call w c.args.card c.args.callee m.now xs) (moment w1) (tree_of w1.pool id))
    (λ id h p ready.
    kept_done m (moment w1) (call (seen_from s p) c.args.card c.args.callee m.now xs) (tree_of w1.pool id) (h p ready)
    (names_kept w0.pool s p c.args.card c.args.callee f.0 m.now xs m.answers ready f.1))
    c.call.ensures.did
