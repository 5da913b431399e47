-- Ways as paths: the choices at each statement, and the points.
use Rattle.std.specs.Prelude.{ℕ, List, [], ◌∷◌, ◌++◌, map}
use Rattle.fort_model.specs.Paths.{Path}
use Rattle.fort_model.specs.declared.graph.Graph.{Graph}
use Rattle.path_cut.specs.declared.step.Step.{Step}
use Rattle.path_cut.specs.declared.step.Step.TheVariants.{At, Choice}
use Rattle.path_cut.specs.Ways.{Way, ways_of}

-- the choices up to the next statement
abbrev pub turns : List Step → List ℕ
turns [] = []
turns (At p ∷ steps) = []
turns (Choice k c ∷ steps) = c ∷ turns steps

-- the choices at each statement
abbrev pub choices_of : List Step → List (List ℕ)
choices_of [] = []
choices_of (At p ∷ steps) = turns steps ∷ choices_of steps
choices_of (Choice k c ∷ steps) = choices_of steps

abbrev pub path_of : Way → Path
path_of w = record { start = w.start; choices = choices_of w.steps }

-- the ways of a graph as paths
abbrev pub paths_of : Graph → List Path
paths_of graph = map path_of (ways_of graph)

-- the points of the statements of steps
abbrev pub points_in : List Step → List ℕ
points_in [] = []
points_in (At p ∷ steps) = p ∷ points_in steps
points_in (Choice k c ∷ steps) = points_in steps

-- the points of the statements of a way, and the one that ends it
abbrev pub way_points : Way → List ℕ
way_points w = points_in w.steps ++ w.end ∷ []
