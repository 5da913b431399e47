use Rattle.std.proofs.Common.{◌≡◌, [], length}
use Rattle.fort_syntax.specs.Units.{segments}
use Rattle.decl_faults.specs.Commons.{name_scans}
use Rattle.decl_faults.proofs.deck_names.scans.Given as goal

abbrev pub invariant-loop-rest : goal.invariant-loop-rest
invariant-loop-rest l = name_scans l.dialect l.earlier (segments l.rest) ≡ name_scans l.dialect [] (segments l.lines)

abbrev pub decreases-loop-rest : goal.decreases-loop-rest
decreases-loop-rest l = length l.rest
