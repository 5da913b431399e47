use Rattle.std.proofs.Common.{◌≡◌, drop}
use Rattle.call_rules.specs.CallFaults.{some_unknown}
use Rattle.call_rules.proofs.statements.some_unknown.Given as goal

abbrev pub invariant-loop-site : goal.invariant-loop-site
invariant-loop-site l = some_unknown l.deck.units.now (drop l.site-index l.sites) ≡ some_unknown l.deck.units.now l.sites
