use Rattle.std.proofs.Common.{◌≡◌, ◌-◌, length, drop}
use Rattle.formula.specs.Atoms.{is_among}
use Rattle.fort_model.specs.CallRules.{some_smashed}
use Rattle.call_tests.specs.Bare.{bare_in}
use Rattle.call_tests.proofs.passed.passes_bare.Given as goal

abbrev pub invariant-loop-at : goal.invariant-loop-at
invariant-loop-at l =
    some_smashed (λ d. is_among d l.smashed) (λ n e. bare_in l.set e) l.at (drop l.at l.dummies) (drop l.at l.actuals)
    ≡ some_smashed (λ d. is_among d l.smashed) (λ n e. bare_in l.set e) 0 l.dummies l.actuals

abbrev pub decreases-loop-at : goal.decreases-loop-at
decreases-loop-at l = length l.dummies - l.at
