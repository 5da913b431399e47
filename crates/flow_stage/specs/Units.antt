-- What is told of the flow of units, one after the other.
use Rattle.std.specs.Prelude.{◌≡◌, ℕ, List, [], ◌∷◌, ◌++◌, take, Option, None}
use Rattle.formula.specs.declared.node.Node.{Node}
use Rattle.fort_syntax.specs.declared.refusal.Fault.{Fault}
use Rattle.fort_model.specs.Program.{Program}
use Rattle.fort_model.specs.Stages.{rules_of_flow}
use Rattle.fort_model.specs.declared.graph.Graph.{Graph}
use Rattle.path_scene.specs.Graphs.{are_graphs_of}
use Rattle.path_scene.specs.Scenes.{IsReady}
use Rattle.path_scene.specs.declared.scene.Scene.{Scene}
use Rattle.unit_stages.specs.Before.{TellsBefore}
use Rattle.flow_graph.specs.Units.{IsGraphOfUnit, TellsFlow}

-- a list has one graph more, that of the unit of a number
abbrev pub HasOneMore : Scene → ℕ → List Graph → List Graph → Type 0
HasOneMore scene n old new = (g : Graph) × (new ≡ old ++ g ∷ []) × IsGraphOfUnit scene n g

-- the first fault of the unit of a number; or its graph is added to a list
pub record IsUnitSeen (scene : Scene) (n : ℕ) (old new : List Graph) (fault : Option Fault) : Type 0 where
  pub tells : TellsFlow scene n fault
  pub added : fault ≡ None → HasOneMore scene n old new

-- the first fault of the units before a number; or the graphs of these
pub record AreUnitsSeen (scene : Scene) (n : ℕ) (graphs : List Graph) (told : Option Fault) : Type 0 where
  pub tells : (pool : List Node) (p : Program) → IsReady pool scene p → TellsBefore p rules_of_flow n told
  pub whole : told ≡ None → (pool : List Node) (p : Program) → IsReady pool scene p → are_graphs_of p 0 (take n p.units) graphs
