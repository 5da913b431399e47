-- What is told of the cycles of a flow.
use Rattle.std.specs.Prelude.{◌≡◌, ◌<◌, ℕ, List, length, get_or, Some}
use Rattle.digraph.specs.Graphs.{Reaches, IsAcyclic, IsLeastOnCycle}
use Rattle.fort_model.specs.declared.graph.Fork.{Fork}
use Rattle.fort_model.specs.declared.graph.Target.{Target}
use Rattle.flow_nodes.specs.Nodes.{flow_nodes}
use Rattle.flow_nodes.specs.declared.cycles.Cycles.{Cycles}
use Rattle.flow_nodes.specs.declared.cycles.Cycles.TheVariants.{Free, First}

-- a graph has no cycle, and numbers of so many first nodes grow along each way from one of them to another
pub record AreNumbers (g : List (List ℕ)) (size : ℕ) (numbers : List ℕ) : Type 0 where
  pub free : IsAcyclic g
  pub long : length numbers ≡ size
  pub growing : (p q : ℕ) → p < size → q < size → Reaches g p q → get_or numbers p 0 < get_or numbers q 0

abbrev pub TellsCycles : List Target → List Fork → List ℕ → Cycles → Type 0
TellsCycles starts forks cuts (Free numbers) = AreNumbers (flow_nodes cuts starts forks) (length starts) numbers
TellsCycles starts forks cuts (First p) = (p < length starts) × IsLeastOnCycle (flow_nodes cuts starts forks) (Some p)
