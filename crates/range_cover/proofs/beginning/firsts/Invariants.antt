use Rattle.std.proofs.Common.{◌≡◌, ℕ, ◌<◌, length, get_or}
use Rattle.range_cover.specs.Covers.{IsInnermost}
use Rattle.range_cover.proofs.beginning.firsts.Given as goal

abbrev pub invariant-loop-point : goal.invariant-loop-point
invariant-loop-point l = record {
  long : length l.firsts.items ≡ l.point;
  each : (q : ℕ) → q < l.point → IsInnermost l.far q (get_or l.firsts.items q 0);
}
