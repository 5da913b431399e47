use Rattle.std.proofs.Common.{◌≡◌, ◌++◌, drop}
use Rattle.std.specs.Prelude.{map}
use Rattle.flow_nodes.specs.Nodes.{one_node}
use Rattle.flow_nodes.proofs.rows.start_rows.Given as goal

abbrev pub invariant-loop-start : goal.invariant-loop-start
invariant-loop-start l = (l.rows.items ++ map (one_node l.size l.marks) (drop l.start-index l.starts)) ≡ map (one_node l.size l.marks) l.starts
