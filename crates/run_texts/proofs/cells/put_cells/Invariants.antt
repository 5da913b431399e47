use Rattle.std.proofs.Common.{◌≡◌, ◌++◌, ◌+◌, ◌-◌}
use Rattle.fort_model.specs.Storage.{contents}
use Rattle.run_texts.specs.Outcomes.{cells_text}
use Rattle.run_texts.proofs.cells.put_cells.Given as goal

abbrev pub invariant-loop-done : goal.invariant-loop-done
invariant-loop-done l =
    l.text.items ++ cells_text (contents l.cells.items (l.extent.first + l.done) (l.extent.size - l.done)) ≡ l.fn.text.items ++ cells_text (contents l.cells.items l.extent.first l.extent.size)
