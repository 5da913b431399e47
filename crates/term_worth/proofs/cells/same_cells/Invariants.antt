use Rattle.std.proofs.Common.{◌≡◌, drop}
use Rattle.formula.specs.Values.{same_cells}
use Rattle.term_worth.proofs.cells.same_cells.Given as goal

abbrev pub invariant-loop-place : goal.invariant-loop-place
invariant-loop-place l = same_cells l.a l.b ≡ same_cells (drop l.place l.a) (drop l.place l.b)
