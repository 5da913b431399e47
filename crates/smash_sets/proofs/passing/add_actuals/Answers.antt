use Rattle.std.proofs.Common.{sym, ap, ◌∙◌, arith, drop}
use Rattle.formula.specs.Atoms.{is_among}
use Rattle.name_tables.specs.Sets.{with_names}
use Rattle.smash_sets.proofs.Passed.{none_left, gone_on}
use Rattle.smash_sets.proofs.passing.add_actuals.Goals as goal

pub loop-at-preserved : goal.loop-at-preserved
loop-at-preserved c =
    gone_on (λ d. is_among d c.args.smashed.now) c.loop-at.at c.args.dummies.now c.args.actuals.now c.index-dummies-at.result c.index-actuals-at.result c.loop-at.set c.add_actual.new.set _
    c.has.result (omega arith) c.index-dummies-at.is (omega arith) c.index-actuals-at.is c.has.ensures c.in_ok-add_actual.ensures c.loop-at.invariant

pub returns-else-at-actuals : goal.returns-else-at-actuals
returns-else-at-actuals c =
    sym (ap (with_names c.loop-at.set) (none_left (λ d. is_among d c.args.smashed.now) c.loop-at.at (drop c.loop-at.at c.args.dummies.now) c.args.actuals.now (omega arith))) ∙ c.loop-at.invariant
