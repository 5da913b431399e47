-- The laws of notes: what holds of all that the notes of a well-formed deck say.
use Rattle.std.specs.Prelude.{ℕ, ◌≡◌, ◌<◌, ◌^◌, ◌⊎◌, List, [], map, Some, Ok, Err, slice_get}
use Rattle.std.specs.List.{All}
use Rattle.event_text.specs.Readable.{AreReadableAfter, headings_with}
use Rattle.fort_syntax.specs.FirstFaults.{stage_of}
use Rattle.fort_syntax.specs.Units.{Piece, deck_of}
use Rattle.fort_syntax.specs.WellFormed.{IsWellFormed}
use Rattle.fort_syntax.specs.declared.deck.Deck.{Deck}
use Rattle.fort_syntax.specs.declared.deck.Placed.{Placed}
use Rattle.fort_syntax.specs.declared.dialect.Dialect.{Dialect}
use Rattle.fort_syntax.specs.declared.name.Name.{Name}
use Rattle.fort_syntax.specs.declared.refusal.Fault.{Fault}
use Rattle.fort_syntax.specs.declared.rule.Rule.TheVariants.{NoInputOrOutput}
use Rattle.fort_syntax.specs.declared.unit.Unit.{Unit as Routine}
use Rattle.fort_notes.specs.Assertions.{Notes}
use Rattle.fort_notes.specs.Remarks.{Remarks, remarks_of}
use Rattle.fort_model.specs.Fitting.{HasFittingNotes}
use Rattle.fort_model.specs.Lists.{IsAmong}
use Rattle.fort_model.specs.Programs.{program_of}
use Rattle.note_laws.specs.Increase.{Increase}
use Rattle.note_laws.specs.Readable.{AreReadableNotes, IsReadableProof}

-- ---- notes and units

-- the notes of a well-formed deck fit its units
abbrev pub NotesFitUnits : Type 0
NotesFitUnits =
    (dialect : Dialect) (deck : Deck) (r : Remarks) (table : List (List Name)) → IsWellFormed dialect deck
    → remarks_of deck ≡ Ok r
    → HasFittingNotes (program_of dialect deck r table)

-- the ASSERTs of each unit of a well-formed deck stand on cards that increase
abbrev pub AssertCardsIncrease : Type 0
AssertCardsIncrease =
    (dialect : Dialect) (deck : Deck) (r : Remarks) → IsWellFormed dialect deck → remarks_of deck ≡ Ok r
    → (i : ℕ) (notes : Notes) → slice_get r.units i ≡ Some notes → Increase (map (λ a. a.card) notes.asserts)

-- where the deck is made of statements and notes, they stand at points that increase too
abbrev pub AssertPointsIncrease : Type 0
AssertPointsIncrease =
    (dialect : Dialect) (pieces : List Piece) (r : Remarks) → IsWellFormed dialect (deck_of pieces)
    → remarks_of (deck_of pieces) ≡ Ok r
    → (i : ℕ) (notes : Notes) → slice_get r.units i ≡ Some notes → Increase (map (λ a. a.point) notes.asserts)

-- ---- definitions, terms and the bound

-- each definition could be added to those before it, and its line can be read back behind theirs
abbrev pub DefinitionsAreReadable : Type 0
DefinitionsAreReadable = (deck : Deck) (r : Remarks) → remarks_of deck ≡ Ok r → AreReadableAfter [] r.definitions

-- each term of INPUT, OUTPUT, an ASSERT and its clock has numbers of at most 18 digits, names that are symbols, functions
-- with their arguments, and uses of these definitions with their numbers of arguments
abbrev pub TermsAreReadable : Type 0
TermsAreReadable = (deck : Deck) (r : Remarks) → remarks_of deck ≡ Ok r
    → All (AreReadableNotes (headings_with r.definitions)) r.units

-- so has each term of a certificate
abbrev pub ProofsAreReadable : Type 0
ProofsAreReadable = (deck : Deck) (r : Remarks) → remarks_of deck ≡ Ok r
    → All (IsReadableProof (headings_with r.definitions)) r.proofs

-- the bound is from 1 to 10^18 - 1
abbrev pub BoundsAreSmall : Type 0
BoundsAreSmall = (deck : Deck) (r : Remarks) → remarks_of deck ≡ Ok r → (0 < r.bound) × (r.bound < 10 ^ 18)

-- ---- faults

-- a fault is on the card of some note
abbrev pub IsOnNote : Deck → Fault → Type 0
IsOnNote deck f = (n : Placed) × IsAmong n deck.notes × (n.card ≡ f.card)

-- a fault is on the head of some unit, which lacks INPUT or OUTPUT
abbrev pub IsOnHead : Deck → Fault → Type 0
IsOnHead deck f = (u : Routine) × IsAmong u deck.units × (u.head ≡ f.card) × (f.rule ≡ NoInputOrOutput)

-- a fault among notes breaks one of the rules 32 to 35, which are those of stage 8, on the card of a note or of a head
pub record IsNoteFault (deck : Deck) (f : Fault) : Type 0 where
  pub stage : stage_of f.rule ≡ 8
  pub place : IsOnNote deck f ⊎ IsOnHead deck f

-- a first fault that the notes of a deck have is as a fault among notes may be
abbrev pub FaultsAreOfNotes : Type 0
FaultsAreOfNotes = (deck : Deck) (f : Fault) → remarks_of deck ≡ Err f → IsNoteFault deck f
