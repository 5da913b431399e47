use Rattle.formula.specs.Pool.{IsIn}
use Rattle.part_tests.proofs.definitions.doubled.Given as goal

abbrev pub invariant-loop : goal.invariant-loop
invariant-loop l = IsIn l.pool l.id
