-- Sizes behind paths and units, as far as the cap.
use Rattle.std.specs.Prelude.{◌≡◌, ◌⊎◌, ℕ, ◌+◌, ◌<◌, ◌≤◌, List, length, drop, Option, option_map, slice_get}
use Rattle.fort_syntax.specs.declared.refusal.Fault.{Fault}
use Rattle.fort_syntax.specs.declared.unit.Unit.{Unit as Routine}
use Rattle.fort_model.specs.Conditions.{AreAllPaths, are_all_paths}
use Rattle.fort_model.specs.Paths.{Path}
use Rattle.fort_model.specs.Program.{Program}
use Rattle.fort_model.specs.declared.graph.Graph.{Graph}
use Rattle.path_cut.specs.Ways.{Way, ways_of}
use Rattle.path_sizes.specs.Limits.{Sizes, AreWithin, nothing, with_units}
use Rattle.size_tallies.specs.Laws.{ConditionFault, PathFault, WeightFault}
use Rattle.size_tallies.specs.Totals.{AreCapped, AreLeft, with_load, with_ways}
use Rattle.weight_tallies.specs.Tallies.{load_of}
use Rattle.measure.specs.declared.counts.Counts.{Counts}
use Rattle.measure.specs.declared.totals.Totals.{Totals}

-- sizes as the code has them
abbrev pub sizes_of : Totals → Sizes
sizes_of t = record { paths = t.paths; conditions = t.conditions; weight = t.weight }

-- sizes with those of the first of some ways, if there is one, and the others are left
pub record IsNext (p : Program) (i : ℕ) (u : Routine) (told : Sizes) (old new : List Way) (found : Option Totals) : Type 0 where
  pub sizes : option_map sizes_of found ≡ option_map (λ way. with_load told (load_of p i u way)) (slice_get old 0)
  pub left : new ≡ drop 1 old

-- sizes behind a unit are within the limits, where these are those before it
pub record StaysWithin (p : Program) (i : ℕ) (u : Routine) (graph : Graph) (told behind : Sizes) : Type 0 where
  pub paths : told.paths + length (ways_of graph) ≤ 4096
  pub conditions : behind.conditions ≤ 100000
  pub weight : behind.weight ≤ 2000000
  pub is : behind ≡ with_ways p i u told (ways_of graph)

-- a unit passes a limit, where these are the sizes before it: the fault by the first that it passes
abbrev pub PassesBy : Program → ℕ → Routine → Graph → Sizes → Fault → Type 0
PassesBy p i u graph told f =
    ((f ≡ PathFault u) × (4096 < told.paths + length (ways_of graph)))
    ⊎ (((f ≡ ConditionFault u) × (told.paths + length (ways_of graph) ≤ 4096)
    × (100000 < (with_ways p i u told (ways_of graph)).conditions))
    ⊎ ((f ≡ WeightFault u) × (told.paths + length (ways_of graph) ≤ 4096)
    × ((with_ways p i u told (ways_of graph)).conditions ≤ 100000)
    × (2000000 < (with_ways p i u told (ways_of graph)).weight)))

-- sizes are those of the units before the one of the number i: with those of the others along the paths that are left, they are
-- the sizes of the program
abbrev pub AreSizesBefore : Program → ℕ → Sizes → List Routine → Type 0
AreSizesBefore p i before us =
    (paths : List (List Path)) → AreAllPaths p paths
    → (left : List (List Path)) × are_all_paths p i us left × (with_units p i before us left
    ≡ with_units p 0 nothing p.units paths)

-- the units before the one of the number i are within the limits, and their sizes are told as far as the cap
pub record IsSoFar (p : Program) (i : ℕ) (told : Sizes) : Type 0 where
  pub before : Sizes
  pub capped : AreCapped before told
  pub within : AreWithin before
  pub left : AreLeft p i before (drop i p.units)
  pub sizes : AreSizesBefore p i before (drop i p.units)

-- numbers of paths and of conditions are those of a program along these paths
pub record AreCountsOf (p : Program) (ways : List (List Path)) (c : Counts) : Type 0 where
  pub paths : c.paths ≡ (with_units p 0 nothing p.units ways).paths
  pub conditions : c.conditions ≡ (with_units p 0 nothing p.units ways).conditions
