use Rattle.std.proofs.Common.{sym, ◌∙◌, arith, drop}
use Rattle.formula.specs.Atoms.{is_among}
use Rattle.call_tests.specs.Bare.{bare_in}
use Rattle.call_tests.proofs.Dummies.{none_left, found, passed}
use Rattle.call_tests.proofs.passed.passes_bare.Goals as goal

pub loop-at-preserved : goal.loop-at-preserved
loop-at-preserved c =
    passed (λ d. is_among d c.args.smashed.now) (λ n e. bare_in c.args.set.now e) c.loop-at.at c.args.dummies.now c.args.actuals.now c.index-dummies-at.result c.index-actuals-at.result _ (omega arith) c.index-dummies-at.is (omega arith) c.index-actuals-at.is
    c.loop-at.invariant (sym c.gets_bare.ensures ∙ c.if-gets_bare.false)

pub returns-then-gets_bare : goal.returns-then-gets_bare
returns-then-gets_bare c =
    found (λ d. is_among d c.args.smashed.now) (λ n e. bare_in c.args.set.now e) c.loop-at.at c.args.dummies.now c.args.actuals.now c.index-dummies-at.result c.index-actuals-at.result _ (omega arith) c.index-dummies-at.is (omega arith) c.index-actuals-at.is
    c.loop-at.invariant (sym c.gets_bare.ensures ∙ c.if-gets_bare.true)

pub returns-else-at-actuals : goal.returns-else-at-actuals
returns-else-at-actuals c =
    sym (none_left (λ d. is_among d c.args.smashed.now) (λ n e. bare_in c.args.set.now e) c.loop-at.at (drop c.loop-at.at c.args.dummies.now) c.args.actuals.now (omega arith)) ∙ c.loop-at.invariant
