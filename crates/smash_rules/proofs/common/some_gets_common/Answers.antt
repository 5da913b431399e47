use Rattle.std.proofs.Common.{sym, ◌∙◌, arith, drop}
use Rattle.formula.specs.Atoms.{is_among}
use Rattle.fort_model.specs.CallRules.{is_bare_common}
use Rattle.call_tests.proofs.Dummies.{none_left, found, passed}
use Rattle.smash_rules.proofs.common.some_gets_common.Goals as goal

pub loop-at-preserved : goal.loop-at-preserved
loop-at-preserved c =
    passed (λ d. is_among d c.args.smashed.now) (λ n e. is_bare_common c.args.caller.now.unit.now c.args.callee.now.unit.now e) c.loop-at.at c.args.dummies.now c.args.actuals.now c.index-dummies-at.result c.index-actuals-at.result _ (omega arith) c.index-dummies-at.is (omega arith) c.index-actuals-at.is
    c.loop-at.invariant (sym c.gets_common.ensures ∙ c.if-gets_common.false)

pub returns-then-gets_common : goal.returns-then-gets_common
returns-then-gets_common c =
    found (λ d. is_among d c.args.smashed.now) (λ n e. is_bare_common c.args.caller.now.unit.now c.args.callee.now.unit.now e) c.loop-at.at c.args.dummies.now c.args.actuals.now c.index-dummies-at.result c.index-actuals-at.result _ (omega arith) c.index-dummies-at.is (omega arith) c.index-actuals-at.is
    c.loop-at.invariant (sym c.gets_common.ensures ∙ c.if-gets_common.true)

pub returns-else-at-actuals : goal.returns-else-at-actuals
returns-else-at-actuals c =
    sym (none_left (λ d. is_among d c.args.smashed.now) (λ n e. is_bare_common c.args.caller.now.unit.now c.args.callee.now.unit.now e) c.loop-at.at (drop c.loop-at.at c.args.dummies.now) c.args.actuals.now (omega arith)) ∙ c.loop-at.invariant
