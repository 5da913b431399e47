use Rattle.std.proofs.Common.{length}
use Rattle.event_reading.specs.Fronts.{AreAsked}
use Rattle.event_reading.proofs.reading.provers_at.Given as goal

-- these lines were read
abbrev pub invariant-loop-one : goal.invariant-loop-one
invariant-loop-one l = AreAsked l.text l.asked.items l.rest

abbrev pub decreases-loop-one : goal.decreases-loop-one
decreases-loop-one l = length l.rest
