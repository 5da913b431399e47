use Rattle.flow_graph.proofs.Sooner.{early_told, well_here}
use Rattle.flow_graph.proofs.early.early_fault.Goals as goal

pub returns : goal.returns
returns c =
    early_told c.args.scene.now c.args.number c.book-book.result.now.unit.now c.in-Ok.smashed c.off_end-ended.result c.sooner.result
    c.book-book.ensures c.in-Ok.ensures c.off_end-ended.ensures c.sooner.ensures

pub smashed_in_do-requires : goal.smashed_in_do-requires
smashed_in_do-requires c = well_here c.requires.ready.0 c.args.scene.now c.requires.ready.1 c.args.number c.book-book.result.now.unit.now c.requires.ready.2 c.book-book.ensures
