-- What is done at the end of a path.
use Rattle.std.specs.Prelude.{ℕ, ◌==◌, cond, List, [], ◌∷◌, ◌++◌, map, Option, Some, None}
use Rattle.entry_frames.specs.Entries.{IsFrame}
use Rattle.formula.specs.Pool.{AllBelow}
use Rattle.formula.specs.Tree.{Tree}
use Rattle.formula.specs.declared.node.Node.{Node}
use Rattle.formula.specs.declared.node.TermId.{TermId}
use Rattle.fort_model.specs.Events.{Check, Event, checks}
use Rattle.fort_model.specs.Paths.{cut_at, cut_of}
use Rattle.fort_model.specs.Program.{assertion_at, notes_of}
use Rattle.fort_model.specs.Seen.{meet}
use Rattle.fort_model.specs.Walk.{arrive}
use Rattle.fort_notes.specs.declared.notes.AssertSpec.{AssertSpec}
use Rattle.fort_syntax.specs.declared.condition.Kind.TheVariants.{AssertCheck, ClockCheck, FallCheck}
use Rattle.note_terms.specs.Stated.{at_least_0, falls_in, trees_in}
use Rattle.path_ends.specs.declared.clock.Clock.{Clock}
use Rattle.path_ends.specs.declared.clock.Last.{Last}
use Rattle.path_plans.specs.declared.plan.Plan.{Plan}
use Rattle.path_starts.specs.Starts.{told_by, unit_of}
use Rattle.walk_setting.specs.Settings.{DoesIn}
use Rattle.walk_state.specs.declared.walk.Walk.{Walk}
use Rattle.walk_state.specs.Moments.{moment}

-- a walk tells what the data names of the unit stand for, and some terms what they stood for at the entry
abbrev pub TellsNow : Plan → Walk → List TermId → Type 0
TellsNow plan w entry = IsFrame w.pool (unit_of plan) w.names entry (moment w).now

-- the first ASSERT that stands before the statement of a number
abbrev pub first_at : List AssertSpec → ℕ → Option AssertSpec
first_at [] pc = None
first_at (a ∷ rest) pc = cond (a.line == pc) (Some a) (first_at rest pc)

-- ---- clocks

abbrev pub clock_trees : List Node → Option Clock → Option (List Tree)
clock_trees nodes None = None
clock_trees nodes (Some c) = Some (trees_in nodes c.parts.items)

abbrev pub IsClockIn : ℕ → Option Clock → Type 0
IsClockIn n None = Unit {0}
IsClockIn n (Some c) = AllBelow n c.parts.items

-- where there are parts at the start, the new ones are below them
abbrev pub fall_in : ℕ → Option (List Tree) → List Tree → List (Event Tree)
fall_in card None new = []
fall_in card (Some old) new = Check FallCheck card (falls_in new old) ∷ []

-- no part is negative, and they have fallen
abbrev pub clock_checks : ℕ → Option (List Tree) → List Tree → List (Event Tree)
clock_checks card clock parts = checks ClockCheck card (map at_least_0 parts) ++ fall_in card clock parts

-- what is checked at an ASSERT, as a walk tells it
abbrev pub assert_checks : Walk → List TermId → Option (List Tree) → AssertSpec → List (Event Tree)
assert_checks w entry clock a = checks AssertCheck a.card (told_by w entry a.terms) ++ clock_checks a.card clock
    (told_by w entry a.clock)

-- ---- in a program

-- what is checked at the ASSERT of a point was checked, at whatever card the path ends
abbrev pub AssertArrives : Plan → Option Clock → ℕ → Walk → Walk → Type 0
AssertArrives plan clock point w0 w1 =
    (card : ℕ) → DoesIn w0.pool plan.setting.now (moment w0)
    (λ w. meet (arrive w (clock_trees w0.pool clock) card
    (cut_of (assertion_at (notes_of w.program w.number) point)) (moment w0).now [])) (moment w1) tt

-- what is checked where a path ends was checked
abbrev pub Arrives : Plan → Option Clock → Last → Walk → Walk → Type 0
Arrives plan clock last w0 w1 =
    DoesIn w0.pool plan.setting.now (moment w0)
    (λ w. meet (arrive w (clock_trees w0.pool clock) last.card (cut_at w.unit (notes_of w.program w.number)
    last.point) (moment w0).now [])) (moment w1) tt
