-- Paths of small decks.
use Rattle.std.specs.Prelude.{[], ◌∷◌}
use Rattle.fort_syntax.specs.declared.dialect.Dialect.TheVariants.{Common}
use Rattle.fort_model.specs.Paths.{IsPath, Ascend}
use Rattle.fort_notes.specs.Assertions.{Notes}
use Rattle.fort_model.specs.Program.{notes_of}
use Rattle.fort_model.specs.Rows.{twice}
use Rattle.fort_model.specs.WalkRows.{the_path}
use Rattle.fort_model.specs.CheckRows.{loop, loop_program, twice_notes, from_assert}

abbrev pub loop_notes : Notes
loop_notes = notes_of loop_program 0

-- to the ASSERT, round the loop, and out; not half a way, nor over the ASSERT
abbrev pub PathsOfLoop : Type 0
PathsOfLoop =
    IsPath Common loop loop_notes (the_path ([] ∷ []))
    × IsPath Common loop loop_notes (from_assert 1 ([] ∷ (1 ∷ []) ∷ []))
    × IsPath Common loop loop_notes (from_assert 1 ([] ∷ (2 ∷ []) ∷ [] ∷ []))
    × (IsPath Common loop loop_notes (from_assert 1 ([] ∷ [])) → ⊥)
    × (IsPath Common loop loop_notes (from_assert 2 ([] ∷ (1 ∷ []) ∷ [])) → ⊥)

abbrev pub PathsAscend : Type 0
PathsAscend =
    Ascend (the_path ([] ∷ []) ∷ from_assert 1 ([] ∷ (1 ∷ []) ∷ []) ∷ from_assert 1 ([] ∷ (2 ∷ []) ∷ [] ∷ []) ∷ [])

-- behind the last statement of two DOs: round the inner one, round the outer one, and out
abbrev pub PathsOfTwice : Type 0
PathsOfTwice =
    IsPath Common twice twice_notes (the_path ([] ∷ [] ∷ []))
    × IsPath Common twice twice_notes (from_assert 1 ((1 ∷ []) ∷ []))
    × IsPath Common twice twice_notes (from_assert 1 ((2 ∷ 1 ∷ []) ∷ [] ∷ []))
    × IsPath Common twice twice_notes (from_assert 1 ((2 ∷ 2 ∷ []) ∷ [] ∷ [] ∷ []))
