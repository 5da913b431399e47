use Rattle.std.proofs.Common.{◌≡◌, drop}
use Rattle.call_rules.specs.CallFaults.{some_mismatch}
use Rattle.call_rules.proofs.statements.some_mismatch.Given as goal

abbrev pub invariant-loop-site : goal.invariant-loop-site
invariant-loop-site l = some_mismatch l.deck.units.now l.caller.unit.now (drop l.site-index l.sites) ≡ some_mismatch l.deck.units.now l.caller.unit.now l.sites
