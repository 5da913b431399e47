use Rattle.range_stage.proofs.Stepwise.{TellsFirst}
use Rattle.range_stage.proofs.units.first_fault.Given as goal

abbrev pub invariant-loop-number : goal.invariant-loop-number
invariant-loop-number l = TellsFirst l.units l.specs l.number l.first
