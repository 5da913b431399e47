use Rattle.std.proofs.Common.{◌≡◌, ℕ, take, map}
use Rattle.fort_model.specs.WalkCalls.{Sight, stands_after}
use Rattle.weight_terms.specs.Held.{held}
use Rattle.weight_calls.specs.Operands.{operand_of}
use Rattle.weight_calls.specs.Seen.{changed_by}
use Rattle.weight_calls.proofs.seen.weights_behind.Given as goal

abbrev pub invariant-loop-operand : goal.invariant-loop-operand
invariant-loop-operand l = (w : Sight ℕ) → l.weights.items ≡ map (stands_after w (changed_by l.caller.smashed.now (held l.caller.names.now))) (map operand_of (take l.operand-index l.operands))
