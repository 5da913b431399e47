-- Counts as far as a limit.
use Rattle.std.specs.Prelude.{ℕ, ◌+◌, ◌<◌, ◌≤◌, cond, nat_le, length, Option, Some, None}
use Rattle.fort_syntax.specs.declared.unit.Unit.{Unit as Routine}
use Rattle.fort_model.specs.Graphs.{IsGraphOf}
use Rattle.fort_model.specs.Program.{Program, notes_of}
use Rattle.fort_model.specs.declared.graph.Graph.{Graph}
use Rattle.path_cut.specs.Ways.{ways_of}
use Rattle.path_sizes.specs.Limits.{Sizes, FewPaths, HasManyPaths, with_paths}
use Rattle.way_laws.specs.PathsOf.{paths_of}

-- a number, where it is no more than a limit
abbrev pub count_up_to : ℕ → ℕ → Option ℕ
count_up_to room n = cond (nat_le n room) (Some n) None

-- the paths through the graph of a unit tell whether the unit has too many paths
abbrev pub PathsAreCounted : Type 0
PathsAreCounted =
    (p : Program) (i : ℕ) (u : Routine) (before : Sizes) (graph : Graph) → IsGraphOf p.dialect u (notes_of p i) graph
    → (4096 < before.paths + length (ways_of graph) → HasManyPaths p i u before)
    × (before.paths + length (ways_of graph) ≤ 4096 → FewPaths (with_paths p i u before (paths_of graph)))
