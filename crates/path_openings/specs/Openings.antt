-- What is done at the start of a walk along a path.
use Rattle.std.specs.Prelude.{◌≡◌, ℕ, zero, suc, List, length, map, Option, Some, None, slice_get}
use Rattle.entry_frames.specs.Entries.{IsFrame, at_entry_in}
use Rattle.formula.specs.Pool.{Grows}
use Rattle.formula.specs.Tree.{Tree}
use Rattle.formula.specs.declared.node.Node.{Node}
use Rattle.fort_model.specs.Program.{Program}
use Rattle.fort_model.specs.Senses.{note}
use Rattle.fort_model.specs.Walk.{at_entry, at_start, entry_facts, notes_here, start_facts}
use Rattle.fort_model.specs.WalkCalls.{Sight}
use Rattle.fort_notes.specs.Assertions.{Assertion}
use Rattle.path_ends.specs.Ends.{IsClockIn, clock_trees}
use Rattle.path_ends.specs.declared.clock.Clock.{Clock}
use Rattle.path_openings.specs.declared.opening.Begun.{Begun}
use Rattle.path_plans.specs.declared.plan.Plan.{Plan}
use Rattle.path_scene.specs.Scenes.{IsReady}
use Rattle.path_starts.specs.Starts.{begun_with, unit_of}
use Rattle.walk_setting.specs.Settings.{seen_from}
use Rattle.walk_state.specs.declared.walk.Walk.{Walk}
use Rattle.walk_state.specs.Moments.{IsWalk, Moment, at_first, moment}

-- a walk stands at the entry, with what names stand for there, and has taken what holds there
pub record HasBegun (plan : Plan) (pool : List Node) (b : Begun) : Type 0 where
  pub well : IsWalk b.walk
  pub grows : Grows pool b.walk.pool
  pub framed : IsFrame b.walk.pool (unit_of plan) b.walk.names b.entry.items (at_entry_in (unit_of plan).names)
  pub names : (moment b.walk).now ≡ at_entry_in (unit_of plan).names
  pub at : (p : Program) → IsReady pool plan.setting.now.scene.now p
      → moment b.walk ≡ begun_with at_first (entry_facts (seen_from plan.setting.now p)) (at_entry (seen_from plan.setting.now p))

-- where a path starts at an ASSERT, if there is one, what holds there was taken
abbrev pub set_at : Sight Tree → Option Assertion → Moment → Moment
set_at w None m = m
set_at w (Some a) m = begun_with m (start_facts w a) (at_start w)

abbrev pub set_from : Sight Tree → ℕ → Moment → Moment
set_from w zero m = m
set_from w (suc k) m = set_at w (slice_get (notes_here w).asserts k) m

-- the parts of the clock there
abbrev pub clock_at : Sight Tree → Option Assertion → Option (List Tree)
clock_at w None = None
clock_at w (Some a) = Some (map (note w.sense (at_entry w) (at_start w)) a.clock)

abbrev pub clock_from : Sight Tree → ℕ → Option (List Tree)
clock_from w zero = None
clock_from w (suc k) = clock_at w (slice_get (notes_here w).asserts k)

-- a path has started
pub record Sets (plan : Plan) (start : ℕ) (w0 : Walk) (b : Begun) (clock : Option Clock) : Type 0 where
  pub framed : IsFrame b.walk.pool (unit_of plan) b.walk.names b.entry.items (moment b.walk).now
  pub inside : IsClockIn (length b.walk.pool) clock
  pub is : (p : Program) → IsReady w0.pool plan.setting.now.scene.now p → moment b.walk ≡ set_from
      (seen_from plan.setting.now p) start (moment w0)
  pub parts : (p : Program) → IsReady w0.pool plan.setting.now.scene.now p → clock_trees b.walk.pool clock
      ≡ clock_from (seen_from plan.setting.now p) start
