use Rattle.std.proofs.Common.{◌-◌, length}
use Rattle.unit_points.specs.Turns.{HasScanned}
use Rattle.unit_points.proofs.scan.scan_all.Given as goal

abbrev pub invariant-loop-step : goal.invariant-loop-step
invariant-loop-step l = HasScanned l.lines (length l.lines - l.step) l.scan
