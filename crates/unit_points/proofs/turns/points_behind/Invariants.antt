use Rattle.std.proofs.Common.{◌≡◌, ℕ, ◌<◌, length, get_or}
use Rattle.fort_model.specs.Flow.{next_point}
use Rattle.unit_points.proofs.turns.points_behind.Given as goal

abbrev pub invariant-loop-at : goal.invariant-loop-at
invariant-loop-at l = record {
  long : length l.points.items ≡ l.at;
  each : (k : ℕ) → k < l.at → get_or l.points.items k 0 ≡ next_point l.unit k;
}
