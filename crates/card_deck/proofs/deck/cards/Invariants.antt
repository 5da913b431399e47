use Rattle.std.proofs.Common.{◌≡◌, ◌≤◌, ◌+◌, drop, length}
use Rattle.fort_syntax.specs.Cards.{cards_from, entries_of}
use Rattle.fort_syntax.specs.CardRules.{card_fault}
use Rattle.card_deck.specs.Held.{count_of}
use Rattle.card_deck.specs.Reading.{entries_with, fault_with, part}
use Rattle.card_deck.proofs.deck.cards.Given as goal

abbrev pub invariant-loop-at : goal.invariant-loop-at
invariant-loop-at l = record {
  within : l.at ≤ length l.bytes;
  started : l.start ≤ l.at;
  number : l.reading.number ≤ l.at + 1;
  fits : count_of l.reading.held ≤ 19;
  entries : entries_with l.reading (cards_from (drop l.at l.bytes) (part l.bytes l.start l.at)) ≡ entries_of l.bytes;
  faults : fault_with l.reading (cards_from (drop l.at l.bytes) (part l.bytes l.start l.at)) ≡ card_fault l.bytes;
}
