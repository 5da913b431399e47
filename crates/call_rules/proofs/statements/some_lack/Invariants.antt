use Rattle.std.proofs.Common.{◌≡◌, drop}
use Rattle.call_rules.specs.CallFaults.{some_lack}
use Rattle.call_rules.specs.Cleared.{AreCleared}
use Rattle.call_rules.proofs.statements.some_lack.Given as goal

abbrev pub invariant-loop-site : goal.invariant-loop-site
invariant-loop-site l = record {
  cleared : AreCleared l.deck.units.now l.caller.unit.now l.cleared;
  rest : some_lack l.deck.units.now l.caller.unit.now (drop l.site-index l.sites) ≡ some_lack l.deck.units.now l.caller.unit.now l.sites;
}
