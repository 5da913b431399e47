use Rattle.std.proofs.Common.{◌<◌, rules, arith}
use Rattle.flow_tests.proofs.Testing.{next_within}
use Rattle.flow_tests.proofs.chains.behind_point.Goals as goal

pub overflow_cast-result : goal.overflow_cast-result
overflow_cast-result c =
    let few = next_within c.args.unit.now c.args.at c.requires.at in
    let small : c.point_behind.result < 4294967296 = omega (arith, few, c.point_behind.ensures, c.requires.flowing.few) in
    search rules
