use Rattle.std.proofs.Common.{◌≡◌, ◌-◌, ◌<◌, []}
use Rattle.run_state.specs.Deeds.{newest_in, under_in, values_in}
use Rattle.run_elements.specs.Elements.{better, folded_all}
use Rattle.run_elements.proofs.intrinsics.best.Given as goal

abbrev pub invariant-loop-depth : goal.invariant-loop-depth
invariant-loop-depth l = (l.depth < l.count) × (l.number ≡ folded_all (better l.least) (values_in (newest_in (l.count - l.depth) (under_in l.depth l.values.items) [])))

abbrev pub decreases-loop-depth : goal.decreases-loop-depth
decreases-loop-depth l = l.depth
