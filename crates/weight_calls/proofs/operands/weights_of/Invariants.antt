use Rattle.std.proofs.Common.{◌≡◌, take, map}
use Rattle.fort_model.specs.WalkCalls.{stands_for}
use Rattle.weight_calls.specs.Operands.{operand_of}
use Rattle.weight_calls.proofs.operands.weights_of.Given as goal

abbrev pub invariant-loop-operand : goal.invariant-loop-operand
invariant-loop-operand l = l.weights.items ≡ map stands_for (map operand_of (take l.operand-index l.operands))
