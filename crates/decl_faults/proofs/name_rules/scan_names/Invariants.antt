use Rattle.std.proofs.Common.{◌≡◌, [], drop}
use Rattle.decl_faults.specs.NameScans.{name_scan, nothing_done}
use Rattle.decl_faults.specs.Facts.{facts_by}
use Rattle.decl_faults.proofs.name_rules.scan_names.Given as goal

abbrev pub invariant-loop-i : goal.invariant-loop-i
invariant-loop-i l = name_scan l.dialect (facts_by l.known l.own) l.done l.blocks (drop l.i l.unit) ≡ name_scan l.dialect (facts_by l.known l.own) nothing_done [] l.unit
