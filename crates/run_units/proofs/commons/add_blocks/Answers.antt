use Rattle.std.proofs.Common.{◌<◌, length, arith}
use Rattle.run_units.proofs.Commoned.{blocks_on}
use Rattle.run_units.proofs.commons.add_blocks.Goals as goal

pub loop-group-preserved : goal.loop-group-preserved
loop-group-preserved c =
    let lt : c.loop-group.group-index < length c.args.blocks.now = omega arith in
    blocks_on c.loop-group.set c.add_items.new.set _ c.args.blocks.now c.loop-group.group-index c.group-item.result c.as_slice.result.now lt c.group-item.is
    c.as_slice.ensures c.in_ok-add_items.ensures c.loop-group.invariant
