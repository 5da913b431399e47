use Rattle.std.proofs.Common.{◌≡◌, ◌++◌, drop, map}
use Rattle.weight_calls.specs.Operands.{operand_of}
use Rattle.weight_calls.specs.Subjects.{sight_of}
use Rattle.weight_terms.specs.Held.{held}
use Rattle.weight_expr.specs.Listed.{operands_listed, values_listed}
use Rattle.weight_expr.proofs.expressions.+expressions.Given as goal

abbrev pub invariant-operands-loop-e : goal.invariant-operands-loop-e
invariant-operands-loop-e l = record {
  value : (map operand_of l.found.items ++ (operands_listed (sight_of l.subject) (held l.names) (drop l.e-index l.args) l.load).value) ≡ (operands_listed (sight_of l.subject) (held l.names) l.args l.initial.load).value;
  load : (operands_listed (sight_of l.subject) (held l.names) (drop l.e-index l.args) l.load).load ≡ (operands_listed (sight_of l.subject) (held l.names) l.args l.initial.load).load;
}

abbrev pub invariant-values-loop-e : goal.invariant-values-loop-e
invariant-values-loop-e l = record {
  value : (l.weights.items ++ (values_listed (sight_of l.subject) (held l.names) (drop l.e-index l.args) l.load).value) ≡ (values_listed (sight_of l.subject) (held l.names) l.args l.initial.load).value;
  load : (values_listed (sight_of l.subject) (held l.names) (drop l.e-index l.args) l.load).load ≡ (values_listed (sight_of l.subject) (held l.names) l.args l.initial.load).load;
}
