use Rattle.std.proofs.Common.{◌≡◌, ◌-◌, length, drop}
use Rattle.formula.specs.Atoms.{is_among}
use Rattle.std.specs.Prelude.{not}
use Rattle.fort_model.specs.CallRules.{some_smashed, is_bare_name}
use Rattle.call_tests.proofs.passed.passes_no_name.Given as goal

abbrev pub invariant-loop-at : goal.invariant-loop-at
invariant-loop-at l =
    some_smashed (λ d. is_among d l.smashed) (λ n e. not (is_bare_name e)) l.at (drop l.at l.dummies) (drop l.at l.actuals)
    ≡ some_smashed (λ d. is_among d l.smashed) (λ n e. not (is_bare_name e)) 0 l.dummies l.actuals

abbrev pub decreases-loop-at : goal.decreases-loop-at
decreases-loop-at l = length l.dummies - l.at
