use Rattle.std.proofs.Common.{◌≡◌, ◌≤◌, drop, length}
use Rattle.weight_terms.specs.Held.{held}
use Rattle.weight_calls.specs.Seen.{by_names, changed_by}
use Rattle.weight_calls.proofs.seen.set_names.Given as goal

abbrev pub invariant-loop-left : goal.invariant-loop-left
invariant-loop-left l = record {
  within : l.left ≤ length l.names;
  told : held l.table ≡ by_names (changed_by l.caller.smashed.now (held l.caller.names.now)) (drop l.left l.names) (held l.fn.table);
}

abbrev pub decreases-loop-left : goal.decreases-loop-left
decreases-loop-left l = l.left
