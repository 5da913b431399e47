use Rattle.std.proofs.Common.{arith}
use Rattle.flow_targets.proofs.Knowing.{target_within}
use Rattle.flow_targets.proofs.targets.plain.Goals as goal

pub to_point-requires-clause-point : goal.to_point-requires-clause-point
to_point-requires-clause-point c =
    let few = target_within c.args.known.now.unit.now.lines c.in-GoTo.label in
    let same = c.requires.known.known.labels c.in-GoTo.label in
    omega (arith, few, same, c.point.ensures)
