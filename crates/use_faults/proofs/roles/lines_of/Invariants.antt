use Rattle.std.proofs.Common.{◌≡◌, [], drop}
use Rattle.use_faults.specs.UseScans.{lines_from}
use Rattle.use_faults.proofs.roles.lines_of.Given as goal

abbrev pub invariant-loop-line : goal.invariant-loop-line
invariant-loop-line l = lines_from l.labels (drop l.line-index l.unit) ≡ lines_from [] l.unit
