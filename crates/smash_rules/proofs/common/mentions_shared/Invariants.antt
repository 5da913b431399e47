use Rattle.std.proofs.Common.{◌≡◌, drop}
use Rattle.std.specs.List.{list_any}
use Rattle.call_tests.specs.Mentioned.{names_in}
use Rattle.smash_rules.specs.Shared.{is_shared}
use Rattle.smash_rules.proofs.common.mentions_shared.Given as goal

abbrev pub invariant-loop-e : goal.invariant-loop-e
invariant-loop-e l =
    list_any (λ e. list_any (is_shared l.caller.unit.now l.callee.unit.now l.smashed) (names_in e)) (drop l.e-index l.actuals)
    ≡ list_any (λ e. list_any (is_shared l.caller.unit.now l.callee.unit.now l.smashed) (names_in e)) l.actuals
