use Rattle.std.proofs.Common.{◌≡◌, ◌-◌, length, drop}
use Rattle.formula.specs.Atoms.{is_among}
use Rattle.fort_model.specs.CallRules.{some_smashed, is_bare_common}
use Rattle.smash_rules.proofs.common.some_gets_common.Given as goal

abbrev pub invariant-loop-at : goal.invariant-loop-at
invariant-loop-at l =
    some_smashed (λ d. is_among d l.smashed) (λ n e. is_bare_common l.caller.unit.now l.callee.unit.now e) l.at (drop l.at l.dummies) (drop l.at l.actuals)
    ≡ some_smashed (λ d. is_among d l.smashed) (λ n e. is_bare_common l.caller.unit.now l.callee.unit.now e) 0 l.dummies l.actuals

abbrev pub decreases-loop-at : goal.decreases-loop-at
decreases-loop-at l = length l.dummies - l.at
