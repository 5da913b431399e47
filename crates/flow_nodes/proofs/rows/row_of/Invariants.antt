use Rattle.std.proofs.Common.{◌≡◌, ◌++◌, drop}
use Rattle.std.specs.Prelude.{map}
use Rattle.flow_nodes.specs.Nodes.{node}
use Rattle.flow_nodes.proofs.rows.row_of.Given as goal

abbrev pub invariant-loop-target : goal.invariant-loop-target
invariant-loop-target l = (l.row.items ++ map (node l.size l.marks) (drop l.target-index l.targets)) ≡ map (node l.size l.marks) l.targets
