use Rattle.std.proofs.Common.{◌≡◌, ◌++◌, drop, map}
use Rattle.walk_operands.specs.Operands as told
use Rattle.walk_operands.proofs.operand.bare_names.Given as goal

abbrev pub invariant-loop-operand : goal.invariant-loop-operand
invariant-loop-operand l = (l.all.items ++ map told.name_of (drop l.operand-index l.operands)) ≡ map told.name_of l.operands
