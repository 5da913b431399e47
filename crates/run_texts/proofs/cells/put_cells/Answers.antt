use Rattle.std.proofs.Common.{◌++◌, ◌<◌, ap, ◌∙◌, arith}
use Rattle.formula.specs.declared.value.Cell.{Cell}
use Rattle.run_texts.specs.Outcomes.{next_text}
use Rattle.run_texts.proofs.CellTexts.{cells_next}
use Rattle.run_texts.proofs.cells.put_cells.Goals as goal

pub loop-done-preserved : goal.loop-done-preserved
loop-done-preserved c =
    let less : c.loop-done.done < c.args.extent.size = omega arith in
    cells_next c.args.cells.now.items c.args.extent.first c.args.extent.size c.loop-done.text.items c.put_next.new.text.items _ c.loop-done.done less
    (c.in_ok-put_next.ensures ∙ ap (λ (x : Cell). c.loop-done.text.items ++ next_text x) c.cell_behind.ensures) c.loop-done.invariant
