-- A deck and what is found of it.
use Rattle.fort_syntax.specs.declared.deck.Deck.{Deck}
use Rattle.deck_judging.specs.declared.findings.Findings.{Findings}
use Rattle.deck_judging.specs.declared.found.Judged.{Judged}

abbrev pub judged_as : Deck → Findings → Judged
judged_as deck f = record {
  deck = deck;
  pool = f.pool;
  definitions = f.definitions;
  conditions = f.conditions;
  units = f.units;
  paths = f.paths;
  bound = f.bound;
  order = f.order;
  runs = f.runs;
  tries = f.tries;
}
