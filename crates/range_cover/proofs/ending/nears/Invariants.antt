use Rattle.std.proofs.Common.{◌≡◌, ◌-◌, length}
use Rattle.range_cover.specs.Covers.{AreNear}
use Rattle.range_cover.proofs.ending.nears.Given as goal

abbrev pub invariant-loop-step : goal.invariant-loop-step
invariant-loop-step l = record {
  long : length l.nears.items ≡ length l.far;
  near : AreNear l.far (length l.far - l.step) l.nears.items;
}
