use Rattle.std.proofs.Common.{◌≡◌, ◌&&◌, drop}
use Rattle.std.specs.List.{list_all}
use Rattle.run_start.specs.Starts.{is_of_sort}
use Rattle.run_start.proofs.entries.all_of_sort.Given as goal

abbrev pub invariant-loop-cell : goal.invariant-loop-cell
invariant-loop-cell l = (l.all && list_all (is_of_sort l.sort) (drop l.cell-index l.cells)) ≡ list_all (is_of_sort l.sort) l.cells
