use Rattle.std.proofs.Common.{◌≡◌, take}
use Rattle.call_order.proofs.numbers.small_all.Given as goal

abbrev pub invariant-loop-number : goal.invariant-loop-number
invariant-loop-number l = l.all.items ≡ take l.number-index l.numbers
