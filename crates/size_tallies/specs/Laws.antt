-- What sizes that are told as far as the cap are to the limits.
use Rattle.std.specs.Prelude.{ℕ, suc, ◌+◌, ◌<◌, ◌≤◌, List, [], ◌∷◌, length}
use Rattle.fort_syntax.specs.declared.refusal.Fault.{Fault}
use Rattle.fort_syntax.specs.declared.rule.Rule.TheVariants.{ManyPaths, ManyConditions, Heavy}
use Rattle.fort_syntax.specs.declared.unit.Unit.{Unit as Routine}
use Rattle.fort_model.specs.Conditions.{AreAllPaths}
use Rattle.fort_model.specs.Graphs.{IsGraphOf}
use Rattle.fort_model.specs.Paths.{Path}
use Rattle.fort_model.specs.Program.{Program, notes_of}
use Rattle.fort_model.specs.declared.graph.Graph.{Graph}
use Rattle.path_cut.specs.Ways.{ways_of}
use Rattle.path_sizes.specs.Limits.{Sizes, nothing, AreWithin, IsSizeFault, IsWithinLimits, Passes, with_paths}
use Rattle.way_laws.specs.PathsOf.{paths_of}
use Rattle.size_tallies.specs.Totals.{AreCapped, AreLeft, with_ways}

-- sizes along all ways of a unit's graph are those along its paths, as far as the cap
abbrev pub SizesAreTallied : Type 0
SizesAreTallied =
    (p : Program) (i : ℕ) (u : Routine) (graph : Graph) → IsGraphOf p.dialect u (notes_of p i) graph
    → (exact told : Sizes) → AreCapped exact told
    → AreCapped (with_paths p i u exact (paths_of graph)) (with_ways p i u told (ways_of graph))

-- a unit's fault by one of the limits, at its head
abbrev pub PathFault : Routine → Fault
PathFault u = record { rule = ManyPaths; card = u.head }

abbrev pub ConditionFault : Routine → Fault
ConditionFault u = record { rule = ManyConditions; card = u.head }

abbrev pub WeightFault : Routine → Fault
WeightFault u = record { rule = Heavy; card = u.head }

-- what the sizes behind a unit tell, as far as the cap, where those before it are told so too
pub record IsJudged (p : Program) (i : ℕ) (u : Routine) (graph : Graph) (exact told : Sizes) : Type 0 where
  pub paths : 4096 < told.paths + length (ways_of graph) → Passes p i u exact (PathFault u)
  pub conditions : told.paths + length (ways_of graph) ≤ 4096
      → 100000 < (with_ways p i u told (ways_of graph)).conditions → Passes p i u exact (ConditionFault u)
  pub weight : told.paths + length (ways_of graph) ≤ 4096 → (with_ways p i u told (ways_of graph)).conditions
      ≤ 100000 → 2000000 < (with_ways p i u told (ways_of graph)).weight → Passes p i u exact (WeightFault u)
  pub within : told.paths + length (ways_of graph) ≤ 4096 → (with_ways p i u told (ways_of graph)).conditions
      ≤ 100000 → (with_ways p i u told (ways_of graph)).weight ≤ 2000000
      → AreWithin (with_paths p i u exact (paths_of graph))

abbrev pub UnitsAreJudged : Type 0
UnitsAreJudged =
    (p : Program) (i : ℕ) (u : Routine) (graph : Graph) → IsGraphOf p.dialect u (notes_of p i) graph
    → (exact told : Sizes) → AreCapped exact told → IsJudged p i u graph exact told

-- at first all units are left; behind a unit within the limits the others; and where none is left, the program
-- is within the limits
pub record AllFollow : Type 0 where
  pub first : (p : Program) → AreLeft p 0 nothing p.units
  pub next : (p : Program) (i : ℕ) (u : Routine) (us : List Routine) (graph : Graph) (before : Sizes)
      → IsGraphOf p.dialect u (notes_of p i) graph → AreLeft p i before (u ∷ us)
      → AreWithin (with_paths p i u before (paths_of graph)) → AreLeft p (suc i) (with_paths p i u before (paths_of graph)) us
  pub fault : (p : Program) (i : ℕ) (u : Routine) (us : List Routine) (before : Sizes) (f : Fault)
      → AreLeft p i before (u ∷ us) → Passes p i u before f → IsSizeFault p f
  pub last : (p : Program) (i : ℕ) (before : Sizes) → AreLeft p i before [] → AreWithin before
      → (paths : List (List Path)) → AreAllPaths p paths → IsWithinLimits p paths

abbrev pub UnitsFollow : Type 0
UnitsFollow = AllFollow
