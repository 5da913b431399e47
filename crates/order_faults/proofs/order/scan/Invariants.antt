use Rattle.std.proofs.Common.{◌≡◌, drop, true, false}
use Rattle.std.specs.Prelude.{◌==◌}
use Rattle.order_faults.specs.Scans.{order_scan}
use Rattle.order_faults.proofs.order.scan.Given as goal

abbrev pub invariant-loop-i : goal.invariant-loop-i
invariant-loop-i l = order_scan (l.i == 0) l.performed (drop l.i l.unit) ≡ order_scan true false l.unit
