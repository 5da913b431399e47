use Rattle.std.proofs.Common.{ℕ, ◌<◌, ◌≤◌, ◌-◌, length, get_or}
use Rattle.range_cover.proofs.ending.soonest.Given as goal

abbrev pub invariant-loop-at : goal.invariant-loop-at
invariant-loop-at l = record {
  low : l.point ≤ l.at;
  high : l.at ≤ length l.far;
  first : (b : ℕ) → b < l.point → l.point ≤ get_or l.far b 0 → l.at ≤ get_or l.far b 0;
}

abbrev pub decreases-loop-at : goal.decreases-loop-at
decreases-loop-at l = length l.far - l.at
