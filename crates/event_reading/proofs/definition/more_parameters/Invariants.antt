use Rattle.std.proofs.Common.{◌≡◌}
use Rattle.event_reading.specs.Lines.{more_parameters}
use Rattle.event_reading.proofs.definition.more_parameters.Given as goal

-- the rounds left go on with the parameters so far
abbrev pub invariant-loop-left : goal.invariant-loop-left
invariant-loop-left l = more_parameters l.left l.all.items l.rest ≡ more_parameters l.rounds l.fn.first.items l.text

abbrev pub decreases-loop-left : goal.decreases-loop-left
decreases-loop-left l = l.left
