use Rattle.std.proofs.Common.{◌≡◌, drop}
use Rattle.digraph.specs.Steps.{marks_after}
use Rattle.flow_nodes.proofs.marking.mark_all.Given as goal

abbrev pub invariant-loop-point : goal.invariant-loop-point
invariant-loop-point l = marks_after l.marks.items (drop l.point-index l.points) ≡ marks_after l.initial.marks.items l.points
