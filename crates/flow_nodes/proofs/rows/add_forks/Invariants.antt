use Rattle.std.proofs.Common.{◌≡◌, ◌++◌, drop}
use Rattle.std.specs.Prelude.{map}
use Rattle.flow_nodes.specs.Nodes.{fork_nodes}
use Rattle.flow_nodes.proofs.rows.add_forks.Given as goal

abbrev pub invariant-loop-fork : goal.invariant-loop-fork
invariant-loop-fork l = (l.rows.items ++ map (fork_nodes l.size l.marks) (drop l.fork-index l.forks)) ≡ l.initial.rows.items ++ map (fork_nodes l.size l.marks) l.forks
