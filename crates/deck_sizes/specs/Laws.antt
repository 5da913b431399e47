-- How many statements the units of a deck have.
use Rattle.std.specs.Prelude.{◌≡◌, ◌≤◌, ℕ, List, None, Some, length, slice_get}
use Rattle.fort_syntax.specs.CardRules.{card_fault}
use Rattle.fort_syntax.specs.Cards.{entries_of}
use Rattle.fort_syntax.specs.Readings.{AreReadAs}
use Rattle.fort_syntax.specs.Units.{Piece, deck_of}
use Rattle.fort_syntax.specs.declared.dialect.Dialect.{Dialect}
use Rattle.fort_syntax.specs.declared.unit.Unit.{Unit as Routine}

-- bytes that keep the rules on cards are few, and a unit of what they are read as has no more statements than there are bytes
abbrev pub DecksAreShort : Type 0
DecksAreShort =
    (d : Dialect) (bytes : List ℕ) (pieces : List Piece) → card_fault bytes ≡ None → AreReadAs d (entries_of bytes) pieces
    → (i : ℕ) (u : Routine) → slice_get (deck_of pieces).units i ≡ Some u → length u.lines ≤ 1048576
