use Rattle.std.proofs.Common.{◌≡◌, ℕ, ◌+◌, drop, length, ◌≤◌}
use Rattle.std.specs.Prelude.{unwrap_or}
use Rattle.fort_model.specs.Flow.{target}
use Rattle.unit_tables.specs.Tables.{told_point}
use Rattle.unit_tables.proofs.label_points.LabelPoints.new.Given as goal

abbrev pub invariant-loop-left : goal.invariant-loop-left
invariant-loop-left l = (l.left ≤ length l.lines) × ((x : ℕ) → unwrap_or (told_point l.points x) (length l.lines) ≡ l.left + target (drop l.left l.lines) x)

abbrev pub decreases-loop-left : goal.decreases-loop-left
decreases-loop-left l = l.left
