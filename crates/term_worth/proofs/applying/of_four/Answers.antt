use Rattle.term_worth.proofs.Applied.{cells_answer}
use Rattle.term_worth.proofs.applying.of_four.Goals as goal

pub returns-in-IntegerCells : goal.returns-in-IntegerCells
returns-in-IntegerCells c =
    cells_answer c.args.entries.now c.args.made.now c.args.f c.args.args.0 c.args.args.1 c.args.args.2 c.args.args.3 c.truth.result c.integer_cells.result c.in-IntegerCells.is c.integer_cells.ensures c.truth.ensures
