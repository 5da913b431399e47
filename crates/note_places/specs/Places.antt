-- Where notes with certain first words stand.
use Rattle.std.specs.Prelude.{◌≡◌, ℕ, ◌+◌, ◌*◌, ◌<◌, ◌==◌, ◌&&◌, ◌||◌, not, nat_eq, Bool, true, false, cond, if◌then◌else◌, List, [], ◌∷◌, Option, Some, None}
use Rattle.std.specs.List.{list_any}
use Rattle.std.specs.Map.{lookup}
use Rattle.fort_syntax.specs.declared.deck.Placed.{Placed}
use Rattle.fort_notes.specs.Judging as judging
use Rattle.fort_notes.specs.Judging.{begins_with, stands_in}
use Rattle.note_places.specs.declared.first_words.NoteWord.{NoteWord}
use Rattle.note_places.specs.declared.first_words.NoteWord.TheVariants.{Bound, PlainDefinition, CountingDefinition, Input, Output, Assert, Run, Try, Proof}

abbrev pub kind_of : NoteWord → judging.Word
kind_of Bound = judging.Bound
kind_of PlainDefinition = judging.PlainDefinition
kind_of CountingDefinition = judging.CountingDefinition
kind_of Input = judging.Input
kind_of Output = judging.Output
kind_of Assert = judging.Assert
kind_of Run = judging.Run
kind_of Try = judging.Try
kind_of Proof = judging.Proof

-- ---- units

-- a number is one of some
abbrev pub is_known : ℕ → List ℕ → Bool
is_known n ns = list_any (nat_eq n) ns

-- a set has the numbers of the units in which a note with that first word stands
abbrev pub AreUnitsWith : judging.Word → List Placed → List ℕ → Type 0
AreUnitsWith kind notes set = (i : ℕ) → is_known i set ≡ stands_in kind i notes

-- ---- ASSERTs

-- of the ASSERTs at a place, the card of the first, and whether one of the others has another card
abbrev pub Marks : Type 0
Marks = ℕ × Bool

abbrev pub more_marks : Option Marks → ℕ → Marks
more_marks None card = (card, false)
more_marks (Some m) card = (m.0, m.1 || not (m.0 == card))

abbrev pub is_at : ℕ → ℕ → Placed → Bool
is_at unit line n = (n.unit == unit) && (n.line == line)

-- the marks of a place, where some were known before
abbrev pub marks_from : Option Marks → ℕ → ℕ → List Placed → Option Marks
marks_from known unit line [] = known
marks_from known unit line (n ∷ rest) =
    marks_from (if begins_with judging.Assert n && is_at unit line n then Some (more_marks known n.card) else known)
    unit line rest

-- an ASSERT at the place has another card
abbrev pub has_other : ℕ → Option Marks → Bool
has_other card None = false
has_other card (Some m) = not (card == m.0) || m.1

-- the number of a place
abbrev pub key : ℕ → ℕ → ℕ
key unit line = unit * 4294967296 + line

-- what a table tells of the place of a number
abbrev pub told : List (ℕ × Marks) → ℕ → Option Marks
told table k = lookup (nat_eq k) table

-- a table tells the marks of each place
abbrev pub AreMarksOf : List Placed → List (ℕ × Marks) → Type 0
AreMarksOf notes table = (unit line : ℕ) → line < 4294967296 → told table (key unit line) ≡ marks_from None unit line notes
