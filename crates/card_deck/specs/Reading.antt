-- What a state of reading makes of the cards to come.
use Rattle.std.specs.Prelude.{ℕ, ◌-◌, take, drop, List, ◌++◌, Option}
use Rattle.fort_syntax.specs.Cards.{Card, entries_from}
use Rattle.fort_syntax.specs.CardRules.{fault_from}
use Rattle.fort_syntax.specs.declared.cards.Entry.{Entry}
use Rattle.fort_syntax.specs.declared.refusal.Fault.{Fault}
use Rattle.card_deck.specs.Held.{finished, before_of}
use Rattle.card_deck.specs.declared.reading.Reading.{Reading}

-- the entries of the whole deck
abbrev pub entries_with : Reading → List Card → List Entry
entries_with reading rest = reading.done.items ++ finished reading.held rest ++ entries_from reading.number rest

-- the first fault of the cards to come
abbrev pub fault_with : Reading → List Card → Option Fault
fault_with reading rest = fault_from (before_of reading.held) reading.number rest

-- the bytes from a place up to another
abbrev pub part : List ℕ → ℕ → ℕ → List ℕ
part bytes start end = take (end - start) (drop start bytes)
