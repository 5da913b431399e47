use Rattle.std.proofs.Common.{◌≡◌, ◌≤◌, ◌-◌}
use Rattle.std.specs.Prelude.{replicate}
use Rattle.formula.specs.declared.value.Cell.TheVariants.{Undefined}
use Rattle.term_worth.proofs.cells.blank.Given as goal

abbrev pub invariant-loop-made : goal.invariant-loop-made
invariant-loop-made l = record {
  within : l.made ≤ l.count;
  same : l.items.items ≡ replicate l.made Undefined;
}

abbrev pub decreases-loop-made : goal.decreases-loop-made
decreases-loop-made l = l.count - l.made
