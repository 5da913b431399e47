-- What is done along a path.
use Rattle.std.specs.Prelude.{◌≡◌, ℕ, zero, suc, List, ◌++◌, slice_get}
use Rattle.std.specs.Option.{IsSome}
use Rattle.formula.specs.Tree.{Tree}
use Rattle.formula.specs.declared.node.Node.{Node}
use Rattle.fort_model.specs.Program.{Program}
use Rattle.fort_model.specs.Walk.{notes_here}
use Rattle.fort_model.specs.WalkCalls.{Sight}
use Rattle.path_cut.specs.Ways.{Way}
use Rattle.path_plans.specs.declared.plan.Plan.{Plan}
use Rattle.path_scene.specs.Scenes.{IsReady}
use Rattle.walk_setting.specs.Settings.{seen_from}
use Rattle.walk_state.specs.declared.walk.Walk.{Walk}
use Rattle.walk_state.specs.Moments.{Moment, events_in}
use Rattle.way_walks.specs.Along.{Gone, along}

-- a unit has a start: the entry, or an ASSERT of this number
abbrev pub HasStart : Sight Tree → ℕ → Type 0
HasStart w zero = Unit {0}
HasStart w (suc k) = IsSome (slice_get (notes_here w).asserts k)

-- a walk behind some statements
abbrev pub behind : Moment → Gone Tree → Moment
behind m g = record { now = g.now; past = m.past; events = m.events ++ g.events; answers = g.rest }

-- a walk went along a way from a start of the unit, and met what is met there
abbrev pub WalksAlong : Plan → List Node → Way → Walk → Type 0
WalksAlong plan pool way w =
    (p : Program) → IsReady pool plan.setting.now.scene.now p → HasStart (seen_from plan.setting.now p) way.start
    → events_in w.pool w.met.items ≡ along (seen_from plan.setting.now p) way.start way.steps way.end
