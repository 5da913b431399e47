-- The laws of the deck and of the first fault of entries.
use Rattle.std.specs.Prelude.{◌≡◌, ◌⊎◌, List}
use Rattle.fort_syntax.specs.declared.cards.Entry.{Entry}
use Rattle.fort_syntax.specs.declared.deck.Deck.{Deck}
use Rattle.fort_syntax.specs.declared.dialect.Dialect.{Dialect}
use Rattle.fort_syntax.specs.declared.refusal.Fault.{Fault}
use Rattle.deck_entries.specs.Decks.{IsDeckOf, IsFirstFault}

-- entries make a deck or have a first fault, and not both
abbrev pub DeckOrFirstFault : Type 0
DeckOrFirstFault =
    (d : Dialect) (entries : List Entry)
    → (((deck : Deck) × IsDeckOf d entries deck) ⊎ ((fault : Fault) × IsFirstFault d entries fault))
    × ((deck : Deck) (fault : Fault) → IsDeckOf d entries deck → ¬ IsFirstFault d entries fault)

-- entries make at most one deck
abbrev pub DecksAreOne : Type 0
DecksAreOne = (d : Dialect) (entries : List Entry) (a b : Deck) → IsDeckOf d entries a → IsDeckOf d entries b → a ≡ b

-- entries have at most one first fault
abbrev pub FirstFaultsAreOne : Type 0
FirstFaultsAreOne =
    (d : Dialect) (entries : List Entry) (a b : Fault) → IsFirstFault d entries a → IsFirstFault d entries b → a ≡ b
