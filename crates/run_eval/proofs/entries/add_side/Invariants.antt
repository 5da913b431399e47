use Rattle.std.proofs.Common.{◌≡◌, ◌++◌, ◌+◌, drop}
use Rattle.run_eval.specs.Entries.{side_entries}
use Rattle.run_eval.proofs.entries.add_side.Given as goal

abbrev pub invariant-loop-done : goal.invariant-loop-done
invariant-loop-done l =
    l.entries.items ++ side_entries (drop l.done l.names) (l.first + l.done) l.state.extents.items ≡ l.fn.entries.items ++ side_entries l.names l.first l.state.extents.items
