use Rattle.std.proofs.Common.{◌≡◌, ◌-◌, length, drop}
use Rattle.formula.specs.Atoms.{is_among}
use Rattle.fort_model.specs.CallRules.{bare_names}
use Rattle.name_tables.specs.Sets.{with_names}
use Rattle.smash_sets.proofs.passing.add_actuals.Given as goal

abbrev pub invariant-loop-at : goal.invariant-loop-at
invariant-loop-at l =
    with_names l.set (bare_names (λ d. is_among d l.smashed) (drop l.at l.dummies) (drop l.at l.actuals)) ≡ with_names l.initial.set (bare_names (λ d. is_among d l.smashed) l.dummies l.actuals)

abbrev pub decreases-loop-at : goal.decreases-loop-at
decreases-loop-at l = length l.dummies - l.at
