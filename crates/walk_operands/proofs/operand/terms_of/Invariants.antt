use Rattle.std.proofs.Common.{◌≡◌, ◌++◌, drop, map}
use Rattle.walk_operands.specs.Operands as told
use Rattle.walk_operands.proofs.operand.terms_of.Given as goal

abbrev pub invariant-loop-operand : goal.invariant-loop-operand
invariant-loop-operand l = (l.all.items ++ map told.term_of (drop l.operand-index l.operands)) ≡ map told.term_of l.operands
