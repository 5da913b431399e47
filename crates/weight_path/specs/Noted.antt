-- The unit's own notes along a path.
use Rattle.std.specs.Prelude.{ℕ, ◌==◌, cond, List, [], ◌∷◌, map, Option, Some, None}
use Rattle.formula.specs.Pool.{tree_of}
use Rattle.formula.specs.declared.node.TermId.{TermId}
use Rattle.fort_notes.specs.Assertions.{Notes}
use Rattle.fort_notes.specs.declared.notes.AssertSpec.{AssertSpec}
use Rattle.fort_model.specs.Program.{notes_of}
use Rattle.fort_model.specs.Seen.{Named}
use Rattle.path_sizes.specs.Weights.{all_one}
use Rattle.weight_calls.specs.Programs.{seen_program}
use Rattle.weight_calls.specs.Subjects.{sight_of}
use Rattle.weight_calls.specs.declared.subject.Subject.{Subject}
use Rattle.weight_caps.specs.Loads.{with_test}
use Rattle.weight_caps.specs.declared.loads.Load.{Load}
use Rattle.weight_tallies.specs.Tallied.{all, both}
use Rattle.weight_tallies.specs.Tallies.{entry_weight, told}

-- the notes of the unit that is weighed
abbrev pub own_notes : Subject → Notes
own_notes s = notes_of (seen_program s.pool.now s.scene.now) s.number

-- what terms of these notes weigh, by what names weigh
abbrev pub own_weights : Subject → Named ℕ → List TermId → List ℕ
own_weights s now ids = told (sight_of s) now (map (tree_of s.pool.now) ids)

-- what a path begins with at an ASSERT
abbrev pub assert_weight : Subject → AssertSpec → ℕ
assert_weight s a = both (both (entry_weight (sight_of s)) (all (own_weights s all_one a.terms)))
    (all (own_weights s all_one a.clock))

-- the first ASSERT that stands before the statement of a number
abbrev pub first_at : List AssertSpec → ℕ → Option AssertSpec
first_at [] pc = None
first_at (a ∷ rest) pc = cond (a.line == pc) (Some a) (first_at rest pc)

-- where a clock weighed something at the start, that and what it weighs now are tested
abbrev pub fall_tested : Option ℕ → ℕ → Load → Load
fall_tested None n load = load
fall_tested (Some past) n load = with_test load (both past n)
