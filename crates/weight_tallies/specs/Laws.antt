-- What the tallies of ways are to the weights of paths.
use Rattle.std.specs.Prelude.{◌≡◌, ℕ, length, sum}
use Rattle.fort_syntax.specs.declared.unit.Unit.{Unit as Routine}
use Rattle.fort_model.specs.Graphs.{IsGraphOf}
use Rattle.fort_model.specs.Lists.{IsAmong}
use Rattle.fort_model.specs.Program.{Program, notes_of}
use Rattle.fort_model.specs.declared.graph.Graph.{Graph}
use Rattle.path_cut.specs.Ways.{Way, ways_of}
use Rattle.path_sizes.specs.Weights.{weights_of}
use Rattle.way_laws.specs.PathsOf.{path_of}
use Rattle.weight_caps.specs.Capped.{capped}
use Rattle.weight_tallies.specs.Tallies.{bare, load_of}

-- behind a way of a unit's graph a load tells how many conditions the path has and what they weigh together, as far as the cap;
-- the definitions of the program don't matter
abbrev pub TalliesAreWeights : Type 0
TalliesAreWeights =
    (p : Program) (i : ℕ) (u : Routine) (graph : Graph) → IsGraphOf p.dialect u (notes_of p i) graph
    → (way : Way) → IsAmong way (ways_of graph)
    → ((load_of (bare p) i u way).conditions ≡ capped (length (weights_of p i u (path_of way))))
    × ((load_of (bare p) i u way).weight ≡ capped (sum (weights_of p i u (path_of way))))
