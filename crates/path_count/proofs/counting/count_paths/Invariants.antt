use Rattle.std.proofs.Common.{◌≡◌, ◌+◌, length}
use Rattle.path_cut.specs.Cursor.{ways_left}
use Rattle.path_cut.specs.Ways.{ways_of}
use Rattle.path_count.proofs.counting.count_paths.Given as goal

abbrev pub invariant-loop-count : goal.invariant-loop-count
invariant-loop-count l = l.count + length (ways_left l.paths) ≡ length (ways_of l.graph)
