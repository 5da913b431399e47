-- What the statements and notes of a deck are read as, the deck that they make, and their first fault.
use Rattle.std.specs.Prelude.{◌≡◌, ◌⊎◌, List, [], ◌∷◌, Some, None}
use Rattle.fort_syntax.specs.declared.cards.Entry.{Entry}
use Rattle.fort_syntax.specs.declared.cards.Entry.TheVariants.{Statement, Note}
use Rattle.fort_syntax.specs.declared.deck.Deck.{Deck}
use Rattle.fort_syntax.specs.declared.dialect.Dialect.{Dialect}
use Rattle.fort_syntax.specs.declared.refusal.Fault.{Fault}
use Rattle.fort_syntax.specs.declared.stmt.Stmt.{Stmt}
use Rattle.fort_syntax.specs.Grammar.{Spells}
use Rattle.fort_syntax.specs.Misspelled.{refusal_of}
use Rattle.fort_syntax.specs.Readings.{IsReadAs, AreReadAs}
use Rattle.fort_syntax.specs.Units.{Piece, deck_of}
use Rattle.fort_syntax.specs.UnitRules.{unit_fault}

-- the text of a statement spells none
abbrev pub IsMisspelled : Dialect → Entry → Fault → Type 0
IsMisspelled d (Statement card label text) fault =
    ((s : Stmt) → ¬ Spells d text s) × (fault ≡ record { rule = refusal_of d text; card = card })
IsMisspelled d (Note card text) fault = ⊥

-- the fault of the first statement whose text spells none
abbrev pub IsFirstMisspelled : Dialect → List Entry → Fault → Type 0
IsFirstMisspelled d [] fault = ⊥
IsFirstMisspelled d (entry ∷ entries) fault =
    IsMisspelled d entry fault ⊎ (((piece : Piece) × IsReadAs d entry piece) × IsFirstMisspelled d entries fault)

-- the first fault: statements that are none come before all rules on units
abbrev pub IsFirstFault : Dialect → List Entry → Fault → Type 0
IsFirstFault d entries fault =
    IsFirstMisspelled d entries fault ⊎ ((pieces : List Piece) × AreReadAs d entries pieces × (unit_fault d pieces ≡ Some fault))

-- the deck that statements and notes make which keep all rules on statements and units
abbrev pub IsDeckOf : Dialect → List Entry → Deck → Type 0
IsDeckOf d entries deck =
    (pieces : List Piece) × AreReadAs d entries pieces × (unit_fault d pieces ≡ None) × (deck ≡ deck_of pieces)
