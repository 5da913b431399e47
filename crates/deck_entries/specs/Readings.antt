-- Reading the entries of a deck one by one.
use Rattle.std.specs.Prelude.{ℕ, zero, suc, ◌≡◌, ◌<◌, ◌≤◌, not, false, cond, List, [], ◌∷◌, ◌++◌, map}
use Rattle.fort_syntax.specs.Readings.{AreReadAs}
use Rattle.fort_syntax.specs.Units.{Piece, stated, remarked, class_of, is_performing, is_ending}
use Rattle.fort_syntax.specs.declared.cards.Entry.{Entry}
use Rattle.fort_syntax.specs.declared.cards.Entry.TheVariants.{Statement, Note}
use Rattle.fort_syntax.specs.declared.class.Class.{Class}
use Rattle.fort_syntax.specs.declared.deck.Placed.{Placed}
use Rattle.fort_syntax.specs.declared.dialect.Dialect.{Dialect}
use Rattle.fort_syntax.specs.declared.refusal.Fault.{Fault}
use Rattle.fort_syntax.specs.declared.unit.Line.{Line}
use Rattle.deck_entries.specs.Decks.{IsFirstMisspelled}
use Rattle.deck_entries.specs.declared.spot.Spot.{Spot}

-- before the first statement
abbrev pub top : Spot
top = record { inside = false; unit = 0; line = 0 }

-- in a unit, the next one where none is open
abbrev pub entered : Spot → Spot
entered s = cond s.inside s (record { inside = s.inside; unit = suc s.unit; line = 0 })

abbrev pub counted : Class → ℕ → ℕ
counted class n = cond (is_performing class) (suc n) n

-- behind one more statement of this class
abbrev pub passed : Class → Spot → Spot
passed class s = record {
  inside = not (is_ending class);
  unit = (entered s).unit;
  line = counted class (entered s).line;
}

-- the numbers of a spot are below that of a card, or not above it
abbrev pub IsBefore : ℕ → Spot → Type 0
IsBefore card s = (s.unit < card) × (s.line < card)

abbrev pub IsWithin : ℕ → Spot → Type 0
IsWithin card s = (s.unit ≤ card) × (s.line ≤ card)

-- outside the units: 0 before the first, else 1
abbrev pub line_outside : ℕ → ℕ
line_outside zero = 0
line_outside (suc n) = 1

abbrev pub placed_at : Spot → ℕ → List ℕ → Placed
placed_at s card text =
    cond s.inside (record { card = card; text = text; unit = s.unit; line = s.line })
    (record { card = card; text = text; unit = 0; line = line_outside s.unit })

-- the notes among pieces, where those before end at a spot
abbrev pub notes_at : Spot → List Piece → List Placed
notes_at s [] = []
notes_at s (stated line ∷ rest) = notes_at (passed (class_of line.stmt) s) rest
notes_at s (remarked card text ∷ rest) = placed_at s card text ∷ notes_at s rest

-- entries whose statements are read as these
abbrev pub pieces_of : List Entry → List Line → List Piece
pieces_of [] lines = map stated lines
pieces_of (Statement card label text ∷ entries) [] = []
pieces_of (Statement card label text ∷ entries) (line ∷ lines) = stated line ∷ pieces_of entries lines
pieces_of (Note card text ∷ entries) lines = remarked card text ∷ pieces_of entries lines

-- of all entries some are left, and the others were read as these statements and notes, which end at a spot:
-- whatever the rest is read as continues them
pub record HasRead (dialect : Dialect) (all left : List Entry) (lines : List Line) (notes : List Placed)
    (spot : Spot) : Type 0 where
  pub pieces : (more : List Line) → AreReadAs dialect left (pieces_of left more)
      → AreReadAs dialect all (pieces_of all (lines ++ more))
  pub placed : (more : List Line) → notes ++ notes_at spot (pieces_of left more) ≡ notes_at top (pieces_of all (lines ++ more))
  pub faults : (fault : Fault) → IsFirstMisspelled dialect left fault → IsFirstMisspelled dialect all fault
