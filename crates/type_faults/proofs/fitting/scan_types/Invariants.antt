use Rattle.std.proofs.Common.{◌≡◌, drop}
use Rattle.unit_scope.specs.Scoping.{scope_by}
use Rattle.type_faults.specs.Parts.{type_scan}
use Rattle.type_faults.proofs.fitting.scan_types.Given as goal

abbrev pub invariant-loop-i : goal.invariant-loop-i
invariant-loop-i l = type_scan (scope_by l.scope) (drop l.i l.unit) ≡ type_scan (scope_by l.scope) l.unit
