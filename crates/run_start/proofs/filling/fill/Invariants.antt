use Rattle.std.proofs.Common.{◌≡◌, ◌++◌, ◌-◌, length, drop}
use Rattle.run_start.specs.Filled.{filled}
use Rattle.run_start.proofs.filling.fill.Given as goal

abbrev pub invariant-loop-k : goal.invariant-loop-k
invariant-loop-k l =
    (l.pile.items ++ filled l.entries.given.now (drop l.k l.names) (drop l.k l.sizes) ≡ l.fn.pile.items ++ filled l.entries.given.now l.names l.sizes) × (l.pile.room ≡ l.fn.pile.room)

abbrev pub decreases-loop-k : goal.decreases-loop-k
decreases-loop-k l = length l.names - l.k
