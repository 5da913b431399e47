-- The graphs of the units of a program.
use Rattle.std.specs.Prelude.{ℕ, suc, List, [], ◌∷◌}
use Rattle.fort_syntax.specs.declared.unit.Unit.{Unit as Routine}
use Rattle.fort_model.specs.Graphs.{IsGraphOf}
use Rattle.fort_model.specs.Program.{Program, notes_of}
use Rattle.fort_model.specs.declared.graph.Graph.{Graph}

-- graphs, one for each unit from the number i on, are those of these units
abbrev pub are_graphs_of : Program → ℕ → List Routine → List Graph → Type 0
are_graphs_of p i [] [] = Unit {0}
are_graphs_of p i [] (g ∷ gs) = ⊥
are_graphs_of p i (u ∷ us) [] = ⊥
are_graphs_of p i (u ∷ us) (g ∷ gs) = IsGraphOf p.dialect u (notes_of p i) g × are_graphs_of p (suc i) us gs

-- graphs are those of the units of a program, one for each in order
abbrev pub AreGraphsOf : Program → List Graph → Type 0
AreGraphsOf p graphs = are_graphs_of p 0 p.units graphs
