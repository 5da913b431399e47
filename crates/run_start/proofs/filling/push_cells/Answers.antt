use Rattle.std.proofs.Common.{◌<◌, length, rules}
use Rattle.run_start.proofs.Holding.{next_fits}
use Rattle.run_start.proofs.filling.push_cells.Goals as goal

pub push-requires : goal.push-requires
push-requires c =
    let lt : c.loop-cell.cell-index < length c.args.cells.now = search rules in
    next_fits c.loop-cell.pile.items c.args.pile.now.items c.args.cells.now c.loop-cell.cell-index c.loop-cell.pile.room c.args.pile.now.room c.loop-cell.invariant.0 c.loop-cell.invariant.1 c.requires.room lt
