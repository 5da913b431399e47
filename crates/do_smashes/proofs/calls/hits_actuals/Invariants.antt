use Rattle.std.proofs.Common.{◌≡◌, ◌-◌, length, drop}
use Rattle.std.specs.List.{list_any}
use Rattle.formula.specs.Atoms.{is_among}
use Rattle.fort_model.specs.CallRules.{bare_names}
use Rattle.do_smashes.specs.Guards.{is_kept}
use Rattle.do_smashes.specs.Hits.{row_of}
use Rattle.do_smashes.proofs.calls.hits_actuals.Given as goal

abbrev pub invariant-loop-at : goal.invariant-loop-at
invariant-loop-at l =
    list_any (is_kept l.kept.guards.now l.kept.at) (bare_names (λ d. is_among d (row_of l.called.rows.now l.called.number)) (drop l.at l.dummies) (drop l.at l.actuals))
    ≡ list_any (is_kept l.kept.guards.now l.kept.at) (bare_names (λ d. is_among d (row_of l.called.rows.now l.called.number)) l.dummies l.actuals)

abbrev pub decreases-loop-at : goal.decreases-loop-at
decreases-loop-at l = length l.dummies - l.at
