use Rattle.std.proofs.Common.{◌≡◌, map, take}
use Rattle.flow_graph.proofs.routes.points_of.Given as goal

abbrev pub invariant-loop-spec : goal.invariant-loop-spec
invariant-loop-spec l = l.points.items ≡ map (λ a. a.line) (take l.spec-index l.asserts)
