use Rattle.std.proofs.Common.{arith}
use Rattle.do_ranges.proofs.Ending.{end_within}
use Rattle.do_ranges.proofs.crossing.crosses.Goals as goal

pub leaves_do-requires-in-BlockIf-clause-to : goal.leaves_do-requires-in-BlockIf-clause-to
leaves_do-requires-in-BlockIf-clause-to c =
    let few = end_within c.args.unit.now c.args.at c.requires.at in
    omega (arith, few, c.end_at.ensures)
