use Rattle.std.proofs.Common.{◌≡◌, drop}
use Rattle.use_faults.specs.UseScans.{has_label_in, lacks_label}
use Rattle.use_faults.proofs.used.lacks_some.Given as goal

abbrev pub invariant-loop-label : goal.invariant-loop-label
invariant-loop-label l = lacks_label (has_label_in l.lines) (drop l.label-index l.labels) ≡ lacks_label (has_label_in l.lines) l.labels
