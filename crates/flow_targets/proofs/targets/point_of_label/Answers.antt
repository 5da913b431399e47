use Rattle.std.proofs.Common.{◌<◌, rules, arith}
use Rattle.flow_targets.proofs.Knowing.{target_within}
use Rattle.flow_targets.proofs.targets.point_of_label.Goals as goal

pub overflow_cast-result : goal.overflow_cast-result
overflow_cast-result c =
    let few = target_within c.args.known.now.unit.now.lines c.args.label in
    let same = c.requires.labels c.args.label in
    let small : c.point.result < 4294967296 = omega (arith, few, same, c.point.ensures, c.requires.few) in
    search rules
