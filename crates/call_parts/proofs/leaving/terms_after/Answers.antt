use Rattle.std.proofs.Common.{◌≡◌, suc, ◌+◌, ◌∙◌, length, sym, subst, arith}
use Rattle.walk_operands.specs.Operands.{IsOperandIn}
use Rattle.walk_operands.specs.declared.operand.Operand.{Operand}
use Rattle.walk_state.specs.Moments.{moment}
use Rattle.walk_state.proofs.Parts.{follows_then}
use Rattle.call_parts.proofs.Operated.{after_more, operand_at, within_grown}
use Rattle.call_parts.proofs.leaving.terms_after.Goals as goal

pub term_after-requires-clause-operand : goal.term_after-requires-clause-operand
term_after-requires-clause-operand c =
    let w0 = c.args.walk.now in
    let w1 = c.loop-operand.walk in
    let x = c.operand-item.result in
    within_grown w0.pool w1.pool x c.loop-operand.invariant.on.grows
    (subst (λ (y : Operand). IsOperandIn (length w0.pool) y) (sym c.operand-item.is) (operand_at (length w0.pool) c.args.operands.now c.loop-operand.operand-index x c.requires.operands c.loop-operand-test.true))

pub loop-operand-preserved : goal.loop-operand-preserved
loop-operand-preserved c =
    let w0 = c.args.walk.now in
    let w1 = c.loop-operand.walk in
    let w2 = c.term_after.new.walk in
    let x = c.operand-item.result in
    let k = c.loop-operand.operand-index in
    let same = c.loop-operand.invariant.same in
    let next : k + 1 ≡ suc k = omega arith in
    record {
      on = follows_then w0 w1 w2 c.loop-operand.invariant.on c.term_after.ensures.on;
      same = c.term_after.ensures.same ∙ same;
      after =
          after_more w0.pool w1.pool w2.pool (moment w0).now (moment w1).now c.args.operands.now k (k + 1) x c.loop-operand.all.items c.push.new.self.items c.in_ok-term.term
          c.loop-operand.invariant.after c.loop-operand.invariant.on.grows c.term_after.ensures.on.grows c.in_ok-term.ensures.is_in c.in_ok-term.ensures.tree (λ j. (same j).now)
          (subst (λ (y : Operand). IsOperandIn (length w0.pool) y) (sym c.operand-item.is) (operand_at (length w0.pool) c.args.operands.now k x c.requires.operands c.loop-operand-test.true))
          c.loop-operand-test.true c.operand-item.is next c.in-Ok.ensures.items;
    }
