use Rattle.std.specs.Prelude.{◌≡◌, ◌-◌, ◌/◌, ◌%◌, ◌≤◌}
use Rattle.edge_io.specs.Hashing.{grouped}
use Rattle.edge_io.proofs.hashing.KeyedHasherHasher.write.Given as goal

abbrev pub invariant-loop-at : goal.invariant-loop-at
invariant-loop-at l = (l.at % 8 ≡ 0) × (l.at ≤ l.len - 1) × (l.state ≡ grouped l.bytes l.self.factor l.initial.state (l.at / 8))

abbrev pub decreases-loop-at : goal.decreases-loop-at
decreases-loop-at l = l.len - l.at
