use Rattle.std.proofs.Common.{◌≡◌, ◌+◌, drop}
use Rattle.order_faults.specs.Scans.{unit_size}
use Rattle.order_faults.proofs.splitting.unit_size.Given as goal

abbrev pub invariant-loop-i : goal.invariant-loop-i
invariant-loop-i l = unit_size l.lines ≡ l.i + unit_size (drop l.i l.lines)
