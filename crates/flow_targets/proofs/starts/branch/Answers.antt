use Rattle.std.proofs.Common.{arith}
use Rattle.flow_tests.proofs.Testing.{next_within}
use Rattle.flow_targets.proofs.Knowing.{branch_within}
use Rattle.flow_targets.proofs.starts.branch.Goals as goal

pub to_point-inside-requires-clause-point : goal.to_point-inside-requires-clause-point
to_point-inside-requires-clause-point c = (let few = next_within c.args.known.now.unit.now c.args.at c.requires.at in omega (arith, few, c.next_at.ensures))

pub to_point-past-requires-clause-point : goal.to_point-past-requires-clause-point
to_point-past-requires-clause-point c = (let few = branch_within c.args.known.now.unit.now c.args.at c.requires.at in omega (arith, few, c.branch_at.ensures))

pub to_either-requires-clause-first : goal.to_either-requires-clause-first
to_either-requires-clause-first c = c.to_point-inside.ensures.one.within

pub to_either-requires-clause-second : goal.to_either-requires-clause-second
to_either-requires-clause-second c = c.to_point-past.ensures.one.within
