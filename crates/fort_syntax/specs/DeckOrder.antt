-- The order of a deck's cards, and where its notes may stand.
use Rattle.std.specs.Prelude.{ℕ, zero, suc, ◌&&◌, nat_le, nat_lt, Bool, true, false, List, [], ◌∷◌, length, Option, Some, None, slice_get}
use Rattle.fort_syntax.specs.declared.deck.Placed.{Placed}
use Rattle.fort_syntax.specs.declared.unit.Line.{Line}
use Rattle.fort_syntax.specs.declared.unit.Unit.{Unit as Routine}

-- statements stand on ascending cards, all behind one card and before another
abbrev pub stand_between : ℕ → List Line → ℕ → Bool
stand_between first [] last = nat_lt first last
stand_between first (line ∷ lines) last = nat_lt first line.card && stand_between line.card lines last

-- the cards of units ascend from above one: the END of each unit stands before the head of the next
abbrev pub units_ascend_above : ℕ → List Routine → Bool
units_ascend_above card [] = true
units_ascend_above card (u ∷ us) = nat_lt card u.head && units_ascend_above u.«end» us

-- the cards of notes ascend from above one
abbrev pub notes_ascend_above : ℕ → List Placed → Bool
notes_ascend_above card [] = true
notes_ascend_above card (note ∷ notes) = nat_lt card note.card && notes_ascend_above note.card notes

-- there is such a unit, and it has so many executable statements
abbrev pub has_so_many : Option Routine → ℕ → Bool
has_so_many None n = false
has_so_many (Some u) n = nat_le n (length u.lines)

-- a note stands outside the units, before the first or behind an END; or in a unit, behind no more statements than that has
abbrev pub is_place : List Routine → (unit line : ℕ) → Bool
is_place units zero line = nat_le line 1
is_place units (suc k) line = has_so_many (slice_get units k) line

abbrev pub has_place : List Routine → Placed → Bool
has_place units note = is_place units note.unit note.line
