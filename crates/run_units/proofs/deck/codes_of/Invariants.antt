use Rattle.run_units.specs.Coding.{AreUnitsTo}
use Rattle.run_units.proofs.deck.codes_of.Given as goal

abbrev pub invariant-loop-at : goal.invariant-loop-at
invariant-loop-at l = AreUnitsTo l.deck.units.now l.deck.commons.now.names.now l.at l.codes.items
