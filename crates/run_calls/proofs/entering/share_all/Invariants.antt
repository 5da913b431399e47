use Rattle.std.proofs.Common.{◌≡◌, ◌+◌, ◌≤◌, drop, length}
use Rattle.run_calls.specs.Calls.{shared_all}
use Rattle.run_calls.proofs.entering.share_all.Given as goal

abbrev pub invariant-loop-i : goal.invariant-loop-i
invariant-loop-i l = (shared_all (drop l.i l.places) l.m ≡ shared_all l.places l.fn.m) × (length l.m.extents.items + length (drop l.i l.places) ≤ l.m.extents.room)
