use Rattle.std.proofs.Common.{◌≡◌, drop}
use Rattle.call_rules.specs.Scanned.{scan}
use Rattle.call_rules.proofs.scanning.scanned.Given as goal

abbrev pub invariant-loop-i : goal.invariant-loop-i
invariant-loop-i l = record {
  blocks : l.taken.blocks ≡ l.initial.taken.blocks;
  recursive : l.taken.recursive ≡ l.initial.taken.recursive;
  rest : scan l.deck.units.now l.initial.taken.blocks l.initial.taken.recursive l.taken.earlier l.i (drop l.i l.deck.units.now)
      ≡ scan l.deck.units.now l.initial.taken.blocks l.initial.taken.recursive l.initial.taken.earlier 0 l.deck.units.now;
}
