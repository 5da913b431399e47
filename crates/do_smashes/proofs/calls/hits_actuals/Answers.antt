use Rattle.std.proofs.Common.{drop, sym, ap, ◌∙◌, arith}
use Rattle.std.specs.List.{list_any}
use Rattle.formula.specs.Atoms.{is_among}
use Rattle.smash_sets.proofs.Passed.{none_left}
use Rattle.do_smashes.specs.Guards.{is_kept}
use Rattle.do_smashes.specs.Hits.{row_of}
use Rattle.do_smashes.proofs.calls.hits_actuals.Goals as goal

pub returns-else-at-actuals : goal.returns-else-at-actuals
returns-else-at-actuals c =
    sym (ap (list_any (is_kept c.args.kept.now.guards.now c.args.kept.now.at))
    (none_left (λ d. is_among d (row_of c.args.called.now.rows.now c.args.called.now.number)) c.loop-at.at (drop c.loop-at.at c.args.dummies.now) c.args.actuals.now (omega arith)))
    ∙ c.loop-at.invariant
