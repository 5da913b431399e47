use Rattle.std.proofs.Common.{◌≡◌, ℕ, ◌<◌, drop}
use Rattle.std.specs.Prelude.{None}
use Rattle.note_places.specs.Places.{key, told, marks_from}
use Rattle.note_places.proofs.assert_places.AssertPlaces.of_notes.Given as goal

-- the notes left lead to the marks of all
abbrev pub invariant-loop-note : goal.invariant-loop-note
invariant-loop-note l =
    (unit line : ℕ) → line < 4294967296 → marks_from (told l.places (key unit line)) unit line (drop l.note-index l.notes) ≡ marks_from None unit line l.notes
