use Rattle.std.proofs.Common.{◌≡◌, ◌++◌, drop}
use Rattle.call_frames.proofs.frame.copied.Given as goal

abbrev pub invariant-loop-id : goal.invariant-loop-id
invariant-loop-id l = (l.all.items ++ drop l.id-index l.ids) ≡ l.ids
