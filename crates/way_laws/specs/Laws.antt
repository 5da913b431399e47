-- What the ways of a graph are to its unit.
use Rattle.std.specs.Prelude.{◌≡◌}
use Rattle.fort_syntax.specs.declared.dialect.Dialect.{Dialect}
use Rattle.fort_syntax.specs.declared.unit.Unit.{Unit as Routine}
use Rattle.fort_model.specs.Graphs.{IsGraphOf}
use Rattle.fort_model.specs.Lists.{IsAmong}
use Rattle.fort_model.specs.PathPoints.{points_of}
use Rattle.fort_model.specs.Paths.{ArePathsInOrder}
use Rattle.fort_model.specs.declared.graph.Graph.{Graph}
use Rattle.fort_notes.specs.Assertions.{Notes}
use Rattle.path_cut.specs.Ways.{Way, ways_of}
use Rattle.way_laws.specs.PathsOf.{path_of, paths_of, way_points}

-- the ways through the graph of a unit are the paths of the unit in order
abbrev pub WaysArePaths : Type 0
WaysArePaths = (dialect : Dialect) (u : Routine) (notes : Notes) (graph : Graph) → IsGraphOf dialect u notes graph
    → ArePathsInOrder dialect u notes (paths_of graph)

-- the points of a way are those that its path leads through
abbrev pub WaysHavePoints : Type 0
WaysHavePoints =
    (dialect : Dialect) (u : Routine) (notes : Notes) (graph : Graph) → IsGraphOf dialect u notes graph
    → (w : Way) → IsAmong w (ways_of graph) → points_of dialect u notes (path_of w) ≡ way_points w
