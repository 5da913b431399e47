-- What is found so far, and what is added.
use Rattle.std.specs.Prelude.{◌≡◌, ◌<◌, ℕ, suc, List, [], ◌∷◌, ◌++◌, length, map, Option, None, Some, slice_get}
use Rattle.std.specs.List.{All}
use Rattle.event_text.specs.Conditions.{IsConditionIn, condition_tree}
use Rattle.formula.specs.Pool.{Grows}
use Rattle.formula.specs.declared.node.Node.{Node}
use Rattle.fort_model.specs.Conditions.{checks_of, conditions_along, conditions_from}
use Rattle.fort_model.specs.Events.{labels}
use Rattle.fort_model.specs.Graphs.{IsGraphOf}
use Rattle.fort_model.specs.Lists.{IsAmong}
use Rattle.fort_model.specs.Paths.{Path, ArePathsInOrder}
use Rattle.fort_model.specs.Program.{Program, notes_of}
use Rattle.fort_model.specs.declared.graph.Graph.{Graph}
use Rattle.fort_syntax.specs.Conditions.{ConditionTree}
use Rattle.fort_syntax.specs.declared.unit.Unit.{Unit as Routine}
use Rattle.path_cond.specs.declared.found.Drafts.{Drafts}
use Rattle.path_cond.specs.declared.walked.Walked.{Walked}
use Rattle.path_cut.specs.Ways.{Way, ways_of}
use Rattle.path_plans.specs.declared.plan.Plan.{Plan}
use Rattle.path_scene.specs.Scenes.{IsReady}
use Rattle.path_scene.specs.declared.scene.Scene.{Scene}
use Rattle.path_starts.specs.Starts.{unit_of}
use Rattle.path_fronts.specs.Steps.{HasStart}
use Rattle.walk_setting.specs.Settings.{seen_from}
use Rattle.way_laws.specs.PathsOf.{paths_of}
use Rattle.way_walks.specs.Along.{along}

-- the conditions so far, with the pool of the walk
abbrev pub drafts_of : Walked → Drafts
drafts_of w = record { alloc = w.alloc; pool = w.front.walk.pool; conditions = w.conditions }

-- the conditions so far are of the pool
abbrev pub IsDraft : Drafts → Type 0
IsDraft d = All (IsConditionIn d.pool) d.conditions.items

abbrev pub trees_of : Drafts → List ConditionTree
trees_of d = map (condition_tree d.pool) d.conditions.items

-- a graph is that of the unit of a number, in each program that a scene is ready for
abbrev pub IsGraphAt : List Node → Scene → ℕ → Graph → Type 0
IsGraphAt pool scene i graph = (p : Program) (u : Routine) → IsReady pool scene p → slice_get p.units i ≡ Some u
    → IsGraphOf p.dialect u (notes_of p i) graph

-- a graph is that of the unit of a plan, in each such program
abbrev pub IsGraphIn : List Node → Plan → Graph → Type 0
IsGraphIn pool plan graph =
    (p : Program) → IsReady pool plan.setting.now.scene.now p → IsGraphOf p.dialect (unit_of plan)
    (notes_of p plan.setting.now.number) graph

-- the unit of a plan has a start, the entry or an ASSERT of this number, in each such program
abbrev pub StartsIn : List Node → Plan → ℕ → Type 0
StartsIn pool plan start = (p : Program) → IsReady pool plan.setting.now.scene.now p
    → HasStart (seen_from plan.setting.now p) start

-- the unit of a number has fewer than 2^32 paths, with fewer than 2^32 checks along each
pub record AreFew (p : Program) (i : ℕ) (u : Routine) (graph : Graph) : Type 0 where
  pub paths : length (ways_of graph) < 4294967296
  pub checks : (path : Path) → IsAmong path (paths_of graph) → length (checks_of p i u path) < 4294967296

-- so it is with the unit of a number, in each program that a scene is ready for
abbrev pub AreFewAt : List Node → Scene → ℕ → Graph → Type 0
AreFewAt pool scene i graph = (p : Program) (u : Routine) → IsReady pool scene p → slice_get p.units i ≡ Some u
    → AreFew p i u graph

-- so it is with the unit of a plan, in each such program
abbrev pub AreFewIn : List Node → Plan → Graph → Type 0
AreFewIn pool plan graph = (p : Program) → IsReady pool plan.setting.now.scene.now p
    → AreFew p plan.setting.now.number (unit_of plan) graph

-- along a way there are fewer than 2^32 checks, in each such program
abbrev pub HasFewChecks : List Node → Plan → Way → Type 0
HasFewChecks pool plan way =
    (p : Program) → IsReady pool plan.setting.now.scene.now p
    → length (labels (along (seen_from plan.setting.now p) way.start way.steps way.end)) < 4294967296

-- conditions were added, in each program that a scene is ready for
pub record Adds (scene : Scene) (before after : Drafts) (more : Program → List ConditionTree) : Type 0 where
  pub grows : Grows before.pool after.pool
  pub kept : IsDraft after
  pub is : (p : Program) → IsReady before.pool scene p → trees_of after ≡ trees_of before ++ more p

-- the conditions along a way
abbrev pub conditions_of_way : Plan → ℕ → Way → Program → List ConditionTree
conditions_of_way plan n way p = conditions_from (unit_of plan).name n 1 []
    (along (seen_from plan.setting.now p) way.start way.steps way.end)

abbrev pub conditions_of_ways : Plan → ℕ → List Way → Program → List ConditionTree
conditions_of_ways plan n [] p = []
conditions_of_ways plan n (way ∷ ways) p = conditions_of_way plan n way p ++ conditions_of_ways plan (suc n) ways p

abbrev pub AddsPath : Plan → Way → ℕ → Drafts → Drafts → Type 0
AddsPath plan way n before after = Adds plan.setting.now.scene.now before after (conditions_of_way plan n way)

abbrev pub AddsPaths : Plan → ℕ → List Way → Drafts → Drafts → Type 0
AddsPaths plan n ways before after = Adds plan.setting.now.scene.now before after (conditions_of_ways plan n ways)

-- the conditions of a unit were added
pub record AddsUnit (scene : Scene) (i : ℕ) (before after : Drafts) : Type 0 where
  pub grows : Grows before.pool after.pool
  pub kept : IsDraft after
  pub is : (p : Program) (u : Routine) (paths : List Path) → IsReady before.pool scene p
      → slice_get p.units i ≡ Some u → ArePathsInOrder p.dialect u (notes_of p i) paths
      → trees_of after ≡ trees_of before ++ conditions_along p i u 1 paths

-- the ways that are left, with the one that a cursor stands at
abbrev pub remaining : Option Way → List Way → List Way
remaining None ways = []
remaining (Some way) ways = way ∷ ways
