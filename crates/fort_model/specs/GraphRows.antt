-- The graph of a small deck.
use Rattle.std.specs.Prelude.{[], ◌∷◌, Some}
use Rattle.fort_syntax.specs.declared.dialect.Dialect.TheVariants.{Common}
use Rattle.fort_model.specs.declared.graph.Graph.{Graph}
use Rattle.fort_model.specs.declared.graph.Target.TheVariants.{Point, Fork}
use Rattle.fort_model.specs.Graphs.{IsGraphOf}
use Rattle.fort_model.specs.Rows.{twice}
use Rattle.fort_model.specs.CheckRows.{twice_notes}

-- two DOs with one last statement: behind it the inner one is tested, and where it is left the outer one
abbrev pub twice_graph : Graph
twice_graph = record {
  starts = Point 1 ∷ Point 2 ∷ Fork 1 ∷ Point 4 ∷ Point 5 ∷ [];
  forks = record { tested = Some 0; targets = Point 1 ∷ Point 3 ∷ [] } ∷ record {
    tested = Some 1;
    targets =
        Point 2 ∷ Fork 0 ∷ [];
  } ∷ [];
  cuts = 2 ∷ [];
  ranks = 0 ∷ 1 ∷ 0 ∷ 1 ∷ 2 ∷ [];
  size = 5;
}

abbrev pub GraphOfTwice : Type 0
GraphOfTwice = IsGraphOf Common twice twice_notes twice_graph
