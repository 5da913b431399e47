use Rattle.run_coding.specs.Scopes.{unit_of}
use Rattle.run_doing.specs.Rounds.{HasTestsTo}
use Rattle.run_doing.proofs.ways.tests_of_unit.Given as goal

abbrev pub invariant-loop-point : goal.invariant-loop-point
invariant-loop-point l = HasTestsTo (unit_of l.ways.scope.now) l.ways.scope.now.names.now l.point l.table
