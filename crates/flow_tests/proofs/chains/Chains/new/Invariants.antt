use Rattle.std.proofs.Common.{◌≡◌, ℕ, ◌≤◌, length, Some, slice_get}
use Rattle.fort_model.specs.declared.graph.Target.{Target}
use Rattle.fort_model.specs.declared.graph.Target.TheVariants.{Point}
use Rattle.fort_model.specs.Flow.{next_point}
use Rattle.flow_tests.proofs.chains.Chains.new.Given as goal

abbrev pub invariant-loop-at : goal.invariant-loop-at
invariant-loop-at l = record {
  long : length l.behind.items ≡ l.at;
  each : (q : ℕ) (t : Target) → slice_get l.behind.items q ≡ Some t → (t ≡ Point (next_point l.unit q)) × (next_point l.unit q ≤ length l.unit.lines);
}
