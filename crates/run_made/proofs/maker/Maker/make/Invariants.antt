use Rattle.run_made.specs.Making.{IsMadeTo}
use Rattle.run_made.proofs.maker.Maker.make.Given as goal

abbrev pub invariant-loop-point : goal.invariant-loop-point
invariant-loop-point l = IsMadeTo l.self l.point l.made
