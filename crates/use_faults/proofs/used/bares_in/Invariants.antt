use Rattle.std.proofs.Common.{◌≡◌, ◌++◌, drop}
use Rattle.use_faults.specs.UseScans.{bares_in}
use Rattle.use_faults.proofs.used.bares_in.Given as goal

abbrev pub invariant-loop-seen : goal.invariant-loop-seen
invariant-loop-seen l = (l.all.items ++ bares_in (drop l.seen-index l.uses)) ≡ bares_in l.uses
