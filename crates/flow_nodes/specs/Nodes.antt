-- The flow of a unit as a graph of nodes: the statements at their points, behind them the end, and behind it the forks.
use Rattle.std.specs.Prelude.{◌≡◌, ℕ, ◌+◌, ◌*◌, ◌<◌, ◌≤◌, Bool, true, false, cond, List, [], ◌∷◌, ◌++◌, map, length, replicate, get_or, Some, slice_get}
use Rattle.digraph.specs.Steps.{marks_after}
use Rattle.fort_model.specs.declared.graph.Fork.{Fork}
use Rattle.fort_model.specs.declared.graph.Target.{Target}
use Rattle.fort_model.specs.declared.graph.Target.TheVariants.{Point, Fork as AtFork}
use Rattle.fort_model.specs.Graphs.{IsWithin}
use Rattle.fort_model.specs.Lists.{IsAmong}

-- the node of a target: where a mark stands, and at the end, it is the node of the end
abbrev pub node : ℕ → List Bool → Target → ℕ
node size marks (Point q) = cond (get_or marks q true) size q
node size marks (AtFork k) = size + 1 + k

abbrev pub one_node : ℕ → List Bool → Target → List ℕ
one_node size marks t = node size marks t ∷ []

abbrev pub fork_nodes : ℕ → List Bool → Fork → List ℕ
fork_nodes size marks f = map (node size marks) f.targets

-- the nodes that each node leads to; none leads on from the end
abbrev pub nodes : ℕ → List Bool → List Target → List Fork → List (List ℕ)
nodes size marks starts forks = (map (one_node size marks) starts ++ [] ∷ []) ++ map (fork_nodes size marks) forks

-- marks at cut points of a unit with so many statements
abbrev pub cut_marks : ℕ → List ℕ → List Bool
cut_marks size cuts = marks_after (replicate size false) cuts

-- the graph of a flow with cut points
abbrev pub flow_nodes : List ℕ → List Target → List Fork → List (List ℕ)
flow_nodes cuts starts forks = nodes (length starts) (cut_marks (length starts) cuts) starts forks

-- targets lead within the statements and the forks, each fork to lesser ones; and there are not too many
pub record IsRouted (starts : List Target) (forks : List Fork) : Type 0 where
  pub within : (pc : ℕ) (t : Target) → slice_get starts pc ≡ Some t → IsWithin (length starts) (length forks) t
  pub falling : (k : ℕ) (f : Fork) (t : Target) → slice_get forks k ≡ Some f → IsAmong t f.targets → IsWithin (length starts) k t
  pub few : length forks ≤ 3 * length starts
  pub small : length starts < 1073741824
