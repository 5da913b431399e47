use Rattle.std.proofs.Common.{◌≡◌, length}
use Rattle.fort_syntax.specs.Units.{segments}
use Rattle.use_faults.specs.UseScans.{use_scans}
use Rattle.use_faults.proofs.deck_uses.scans.Given as goal

abbrev pub invariant-loop-rest : goal.invariant-loop-rest
invariant-loop-rest l = use_scans l.dialect (segments l.rest) ≡ use_scans l.dialect (segments l.lines)

abbrev pub decreases-loop-rest : goal.decreases-loop-rest
decreases-loop-rest l = length l.rest
