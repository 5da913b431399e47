use Rattle.std.proofs.Common.{sym, ◌∙◌, arith, drop}
use Rattle.formula.specs.Atoms.{is_among}
use Rattle.std.specs.Prelude.{not}
use Rattle.fort_model.specs.CallRules.{is_bare_name}
use Rattle.call_tests.proofs.Dummies.{none_left, found, passed}
use Rattle.call_tests.proofs.passed.passes_no_name.Goals as goal

pub loop-at-preserved : goal.loop-at-preserved
loop-at-preserved c =
    passed (λ d. is_among d c.args.smashed.now) (λ n e. not (is_bare_name e)) c.loop-at.at c.args.dummies.now c.args.actuals.now c.index-dummies-at.result c.index-actuals-at.result _ (omega arith) c.index-dummies-at.is (omega arith) c.index-actuals-at.is
    c.loop-at.invariant (sym c.gets_no_name.ensures ∙ c.if-gets_no_name.false)

pub returns-then-gets_no_name : goal.returns-then-gets_no_name
returns-then-gets_no_name c =
    found (λ d. is_among d c.args.smashed.now) (λ n e. not (is_bare_name e)) c.loop-at.at c.args.dummies.now c.args.actuals.now c.index-dummies-at.result c.index-actuals-at.result _ (omega arith) c.index-dummies-at.is (omega arith) c.index-actuals-at.is
    c.loop-at.invariant (sym c.gets_no_name.ensures ∙ c.if-gets_no_name.true)

pub returns-else-at-actuals : goal.returns-else-at-actuals
returns-else-at-actuals c =
    sym (none_left (λ d. is_among d c.args.smashed.now) (λ n e. not (is_bare_name e)) c.loop-at.at (drop c.loop-at.at c.args.dummies.now) c.args.actuals.now (omega arith)) ∙ c.loop-at.invariant
