use Rattle.std.proofs.Common.{◌≡◌, ◌++◌, drop}
use Rattle.run_start.specs.Filled.{segment_by}
use Rattle.run_start.proofs.filling.Ground.push_segment.Given as goal

abbrev pub invariant-loop-name : goal.invariant-loop-name
invariant-loop-name l =
    (l.row.items ++ segment_by l.self.names.now l.self.ends.now (drop l.name-index l.names) ≡ l.fn.row.items ++ segment_by l.self.names.now l.self.ends.now l.names) × (l.row.room ≡ l.fn.row.room)
