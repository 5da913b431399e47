-- Walks along the paths of ways.
use Rattle.std.specs.Prelude.{◌≡◌}
use Rattle.formula.specs.Tree.{Tree}
use Rattle.fort_model.specs.PathPoints.{points_of}
use Rattle.fort_model.specs.Paths.{IsPath}
use Rattle.fort_model.specs.Walk.{notes_here, walk}
use Rattle.fort_model.specs.WalkCalls.{Sight}
use Rattle.path_cut.specs.Ways.{Way}
use Rattle.way_laws.specs.PathsOf.{path_of, way_points}
use Rattle.way_walks.specs.Along.{along}

-- the walk along the path of a way that leads through its points meets what is met along its steps
abbrev pub WalksGoAlong : Type 0
WalksGoAlong =
    (w : Sight Tree) (way : Way)
    → IsPath w.program.dialect w.unit (notes_here w) (path_of way) → points_of w.program.dialect w.unit
    (notes_here w) (path_of way) ≡ way_points way
    → walk w (path_of way) ≡ along w way.start way.steps way.end
