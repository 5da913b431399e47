use Rattle.std.proofs.Common.{◌≡◌, ◌≤◌, suc, ◌+◌, length, map, ap, ◌∙◌, arith}
use Rattle.fort_model.specs.WalkCalls.{stands_after}
use Rattle.weight_calls.specs.Operands.{operand_of}
use Rattle.weight_calls.specs.Seen.{changed_by}
use Rattle.weight_terms.specs.Held.{held}
use Rattle.weight_calls.proofs.CalledNames.{take_whole, weight_more}
use Rattle.weight_calls.proofs.seen.weights_behind.Goals as goal

pub loop-operand-preserved : goal.loop-operand-preserved
loop-operand-preserved c = λ w.
    let next : c.loop-operand.operand-index + 1 ≡ suc c.loop-operand.operand-index = omega arith in
    weight_more (stands_after w (changed_by c.args.caller.now.smashed.now (held c.args.caller.now.names.now))) c.args.operands.now c.loop-operand.operand-index (c.loop-operand.operand-index + 1)
    c.operand_weight.result c.operand-item.result c.loop-operand.weights.items c.push.new.self.items next c.loop-operand-test.true c.operand-item.is (c.loop-operand.invariant w) (c.operand_weight.ensures w) c.in-Ok.ensures.items

pub returns : goal.returns
returns c = λ w.
    let past : length c.args.operands.now ≤ c.loop-operand.operand-index = omega arith in
    c.loop-operand.invariant w
    ∙ ap (λ xs. map (stands_after w (changed_by c.args.caller.now.smashed.now (held c.args.caller.now.names.now))) (map operand_of xs)) (take_whole c.args.operands.now c.loop-operand.operand-index past)
