-- What is done at the start of a path.
use Rattle.std.specs.Prelude.{◌≡◌, ℕ, Bool, true, List, ◌++◌, length, map, Some, slice_get}
use Rattle.entry_frames.specs.Entries.{IsFrame, at_entry_in}
use Rattle.formula.specs.Pool.{AllBelow, tree_of}
use Rattle.formula.specs.Tree.{Tree}
use Rattle.formula.specs.declared.node.TermId.{TermId}
use Rattle.fort_model.specs.Events.{takes}
use Rattle.fort_model.specs.Fitting.{has_entry, terms_fit}
use Rattle.fort_model.specs.Program.{Program}
use Rattle.fort_model.specs.Seen.{Named, meet}
use Rattle.fort_model.specs.Senses.{of_terms, note}
use Rattle.fort_model.specs.Walk.{at_entry, at_start, bound_facts, dim_dummies, start_facts}
use Rattle.fort_model.specs.WalkCalls.{Sight}
use Rattle.fort_model.specs.WalkPlaces.{sorts}
use Rattle.fort_notes.specs.Assertions.{assertion_tree}
use Rattle.fort_notes.specs.declared.notes.AssertSpec.{AssertSpec}
use Rattle.fort_syntax.specs.Names.{commons}
use Rattle.fort_syntax.specs.declared.unit.Role.{Role}
use Rattle.fort_syntax.specs.declared.unit.Unit.{Unit as Routine}
use Rattle.note_terms.specs.Stated.{at_least_0, stated, trees_in}
use Rattle.path_plans.specs.declared.plan.Plan.{Plan}
use Rattle.path_scene.specs.Scenes.{IsReady}
use Rattle.start_terms.specs.Starts.{facts_of_dims, started}
use Rattle.walk_setting.specs.Settings.{DoesIn, seen_from}
use Rattle.walk_state.specs.declared.walk.Walk.{Walk}
use Rattle.walk_state.specs.Moments.{Did, Moment, moment}

-- the unit of a plan
abbrev pub unit_of : Plan → Routine
unit_of plan = plan.setting.now.book.now.unit.now

-- ---- the entry

-- what holds at the entry but for the INPUT, where names stand for something
abbrev pub shape_facts : Sight Tree → Named Tree → List Tree
shape_facts w now =
    bound_facts w ++ sorts of_terms w.unit now w.unit.dummies ++ sorts of_terms w.unit now
    (commons w.unit) ++ facts_of_dims now (dim_dummies w.unit)

abbrev pub EntryBegins : Plan → Walk → Walk → Type 0
EntryBegins plan w0 w1 = DoesIn w0.pool plan.setting.now (moment w0)
    (λ w. meet (takes (shape_facts w (moment w0).now))) (moment w1) tt

-- ---- an ASSERT

-- what names stand for at an ASSERT where a path starts
abbrev pub start_in : Plan → Named Tree
start_in plan = started plan.smashed.now (at_entry_in (unit_of plan).names)

-- an ASSERT is one of the unit
abbrev pub IsAssertOf : Plan → AssertSpec → Type 0
IsAssertOf plan a = (k : ℕ) × (slice_get plan.spec.now.asserts k ≡ Some a)

-- terms of notes of a unit, which speak of its data names, and of entry values where these may stand; a walk
-- tells what the names stand for, and some terms what they stood for at the entry
pub record IsStartOf (w : Walk) (entry : List TermId) (ids : List TermId) : Type 0 where
  pub unit : Routine
  pub framed : IsFrame w.pool unit w.names entry (moment w).now
  pub inside : AllBelow (length w.pool) ids
  pub role : Role → Bool
  pub entries : List ℕ → Bool
  pub may : (x : List ℕ) → entries x ≡ true → has_entry unit x ≡ true
  pub fit : terms_fit unit role entries (trees_in w.pool ids)

-- terms of notes as a walk tells them
abbrev pub told_by : Walk → List TermId → List TermId → List Tree
told_by w entry ids = map (stated w.pool w.names entry) (trees_in w.pool ids)

-- the parts of a clock were told, and are 0 or more
pub record ClockTold (w0 : Walk) (entry : List TermId) (clock : List TermId) (w1 : Walk) (told : List TermId) : Type 0 where
  pub known : AllBelow (length w1.pool) told
  pub is : trees_in w1.pool told ≡ told_by w0 entry clock
  pub did : Did (moment w0) (meet (takes (map at_least_0 (told_by w0 entry clock)))) (moment w1) tt

-- the facts of an ASSERT, as a walk tells them
abbrev pub facts_told : Plan → AssertSpec → Walk → List TermId → List Tree
facts_told plan a w entry =
    sorts of_terms (unit_of plan) (moment w).now plan.order.items ++ told_by w entry a.terms ++ map at_least_0
    (told_by w entry a.clock)

pub record TakesStart (plan : Plan) (a : AssertSpec) (w0 : Walk) (entry : List TermId) (w1 : Walk)
    (told : List TermId) : Type 0 where
  pub known : AllBelow (length w1.pool) told
  pub is : trees_in w1.pool told ≡ told_by w0 entry a.clock
  pub did : Did (moment w0) (meet (takes (facts_told plan a w0 entry))) (moment w1) tt

-- a walk behind the facts of a start
abbrev pub begun_with : Moment → List Tree → Named Tree → Moment
begun_with m ts now = record { now = now; past = m.past; events = m.events ++ takes ts; answers = m.answers }

-- a path has started at an ASSERT
pub record StartsAt (plan : Plan) (a : AssertSpec) (w0 w1 : Walk) (entry : List TermId) (clock : List TermId) : Type 0 where
  pub known : AllBelow (length w1.pool) clock
  pub framed : IsFrame w1.pool (unit_of plan) w1.names entry (start_in plan)
  pub is : (p : Program) → IsReady w0.pool plan.setting.now.scene.now p
      → moment w1 ≡ begun_with (moment w0) (start_facts (seen_from plan.setting.now p) (assertion_tree w0.pool a))
      (at_start (seen_from plan.setting.now p))
  pub parts : (p : Program) → IsReady w0.pool plan.setting.now.scene.now p
      → trees_in w1.pool clock ≡ map (note of_terms (at_entry (seen_from plan.setting.now p))
      (at_start (seen_from plan.setting.now p))) (map (tree_of w0.pool) a.clock)
