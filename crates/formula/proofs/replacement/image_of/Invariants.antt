use Rattle.std.proofs.Common.{◌≤◌, ◌-◌, length}
use Rattle.formula.proofs.Images.{Between}
use Rattle.formula.proofs.replacement.image_of.Given as goal

abbrev pub invariant-loop-high : goal.invariant-loop-high
invariant-loop-high l = record {
  within : l.high ≤ length l.images;
  order : l.low ≤ l.high;
  between : Between l.images l.id l.low l.high;
}

abbrev pub decreases-loop-high : goal.decreases-loop-high
decreases-loop-high l = l.high - l.low
