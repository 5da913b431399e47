use Rattle.std.proofs.Common.{sym}
use Rattle.term_worth.proofs.OtherLengths.{other_lengths}
use Rattle.term_worth.proofs.cells.same_cells.Goals as goal

pub returns-then-a-b : goal.returns-then-a-b
returns-then-a-b c = sym (other_lengths c.args.a.now c.args.b.now c.if-a-b.true)
