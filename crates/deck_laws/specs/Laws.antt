-- The laws of decks.
use Rattle.std.specs.Prelude.{ℕ, ◌≡◌, List, true, None}
use Rattle.fort_syntax.specs.Cards.{entries_of}
use Rattle.fort_syntax.specs.Units.{Piece, statements, deck_of}
use Rattle.fort_syntax.specs.FirstFaults.{TellsFirst}
use Rattle.fort_syntax.specs.UnitFaults.{IsUnitRuleBroken}
use Rattle.fort_syntax.specs.UnitRules.{unit_fault}
use Rattle.fort_syntax.specs.WellFormed.{IsWellFormed}
use Rattle.fort_syntax.specs.declared.dialect.Dialect.{Dialect}
use Rattle.deck_laws.specs.Spelling.{AreSpelled}
use Rattle.deck_laws.specs.Ascent.{do_ascend, entries_ascend_above}

-- the statements and notes of a deck stand on ascending cards, from above 0
abbrev pub EntriesAscend : Type 0
EntriesAscend = (bytes : List ℕ) → entries_ascend_above 0 (entries_of bytes) ≡ true

-- statements that texts spell and that break no rule on units make a well-formed deck
abbrev pub DecksWithoutFaultAreWellFormed : Type 0
DecksWithoutFaultAreWellFormed =
    (d : Dialect) (pieces : List Piece) → AreSpelled d (statements pieces) → do_ascend pieces ≡ true
    → unit_fault d pieces ≡ None → IsWellFormed d (deck_of pieces)

-- on ascending cards the fault that is told of units is the first of the rules on units that the statements
-- break, and without one they break none
abbrev pub FirstUnitFaultIsLeast : Type 0
FirstUnitFaultIsLeast =
    (d : Dialect) (pieces : List Piece) → do_ascend pieces ≡ true
    → TellsFirst (IsUnitRuleBroken d (statements pieces)) (unit_fault d pieces)
