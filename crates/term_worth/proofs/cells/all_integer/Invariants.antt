use Rattle.std.proofs.Common.{◌≡◌, drop}
use Rattle.std.specs.List.{list_all}
use Rattle.formula.specs.Values.{is_integer_cell}
use Rattle.term_worth.proofs.cells.all_integer.Given as goal

abbrev pub invariant-loop-cell : goal.invariant-loop-cell
invariant-loop-cell l = list_all (is_integer_cell l.least l.greatest) l.cells ≡ list_all (is_integer_cell l.least l.greatest) (drop l.cell-index l.cells)
