use Rattle.std.proofs.Common.{◌≡◌, ℕ, drop}
use Rattle.std.specs.Ordering.{nat_cmp}
use Rattle.std.specs.BTreeMap.{get}
use Rattle.unit_points.specs.Labels.{place_from}
use Rattle.unit_points.proofs.labels.Labels.new.Given as goal

abbrev pub invariant-loop-i : goal.invariant-loop-i
invariant-loop-i l = (label : ℕ) → get nat_cmp l.places label ≡ place_from l.i (drop l.i l.lines) label
