use Rattle.std.proofs.Common.{◌≡◌, take, map}
use Rattle.weight_calls.specs.Operands.{bare_of, operand_of}
use Rattle.weight_calls.proofs.operands.bare_names.Given as goal

abbrev pub invariant-loop-operand : goal.invariant-loop-operand
invariant-loop-operand l = l.names.items ≡ map bare_of (map operand_of (take l.operand-index l.operands))
