use Rattle.std.proofs.Common.{◌≡◌, ◌++◌, drop}
use Rattle.run_eval.specs.Entries.{placed_entries}
use Rattle.run_eval.proofs.entries.add_placed.Given as goal

abbrev pub invariant-loop-done : goal.invariant-loop-done
invariant-loop-done l =
    l.entries.items ++ placed_entries (drop l.done l.places) l.names l.state.extents.items ≡ l.fn.entries.items ++ placed_entries l.places l.names l.state.extents.items
