use Rattle.flow_stage.specs.Units.{AreUnitsSeen}
use Rattle.flow_stage.proofs.units.all_seen.Given as goal

abbrev pub invariant-loop-number : goal.invariant-loop-number
invariant-loop-number l = AreUnitsSeen l.scene l.number l.graphs.items l.first
