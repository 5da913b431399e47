use Rattle.std.proofs.Common.{◌≤◌, length, arith}
use Rattle.loop_tables.proofs.FromBehind.{all_before, around_told}
use Rattle.loop_tables.proofs.loops.points_before.Goals as goal

pub returns : goal.returns
returns c = λ lines.
    let past : length c.args.points.now ≤ c.loop-at.at-index = omega arith in
    around_told lines c.args.point c.args.points.now c.loop-at.found.items
    (all_before c.args.point c.args.points.now c.loop-at.found.items c.loop-at.at-index past c.loop-at.invariant)
