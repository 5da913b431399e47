use Rattle.std.proofs.Common.{◌≡◌, ℕ, suc, ◌≤◌, ◌-◌, length, get_or}
use Rattle.range_cover.specs.Covers.{IsSoonest}
use Rattle.range_cover.proofs.ending.lasts.Given as goal

abbrev pub invariant-loop-step : goal.invariant-loop-step
invariant-loop-step l = record {
  long : length l.lasts.items ≡ suc (length l.far);
  from : (k : ℕ) → length l.far - l.step ≤ k → k ≤ length l.far → IsSoonest l.far k (get_or l.lasts.items k 0);
}
