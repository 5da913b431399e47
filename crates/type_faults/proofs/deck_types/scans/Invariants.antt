use Rattle.std.proofs.Common.{◌≡◌, length}
use Rattle.fort_syntax.specs.Units.{segments}
use Rattle.type_faults.specs.Parts.{type_scans}
use Rattle.type_faults.proofs.deck_types.scans.Given as goal

abbrev pub invariant-loop-rest : goal.invariant-loop-rest
invariant-loop-rest l = type_scans (segments l.rest) ≡ type_scans (segments l.lines)

abbrev pub decreases-loop-rest : goal.decreases-loop-rest
decreases-loop-rest l = length l.rest
