use Rattle.std.proofs.Common.{◌≡◌, drop}
use Rattle.std.specs.List.{list_any}
use Rattle.smash_rules.specs.Shared.{is_shared}
use Rattle.smash_rules.proofs.common.some_shared.Given as goal

abbrev pub invariant-loop-name : goal.invariant-loop-name
invariant-loop-name l =
    list_any (is_shared l.caller.unit.now l.callee.unit.now l.smashed) (drop l.name-index l.names) ≡ list_any (is_shared l.caller.unit.now l.callee.unit.now l.smashed) l.names
