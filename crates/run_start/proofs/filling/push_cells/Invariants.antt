use Rattle.std.proofs.Common.{◌≡◌, ◌++◌, true, drop}
use Rattle.std.specs.List.{list_all}
use Rattle.run_start.specs.Starts.{is_in_range}
use Rattle.run_start.proofs.filling.push_cells.Given as goal

abbrev pub invariant-loop-cell : goal.invariant-loop-cell
invariant-loop-cell l =
    (l.pile.items ++ drop l.cell-index l.cells ≡ l.fn.pile.items ++ l.cells) × (l.pile.room ≡ l.fn.pile.room) × (list_all (is_in_range l.bounds) (drop l.cell-index l.cells) ≡ true)
