use Rattle.std.proofs.Common.{◌≡◌, ◌&&◌, drop}
use Rattle.std.specs.List.{list_all}
use Rattle.run_start.specs.Starts.{is_in_range}
use Rattle.run_start.proofs.judging.are_in_range.Given as goal

abbrev pub invariant-loop-cell : goal.invariant-loop-cell
invariant-loop-cell l = (l.all && list_all (is_in_range l.bounds) (drop l.cell-index l.cells)) ≡ list_all (is_in_range l.bounds) l.cells
