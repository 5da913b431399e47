use Rattle.std.proofs.Common.{length, ◌≡◌}
use Rattle.formula.specs.Atoms.{spelled, spelled_from}
use Rattle.event_reading.proofs.tokens.value.Given as goal

-- the digits left go on with what those passed spell
abbrev pub invariant-loop-rest : goal.invariant-loop-rest
invariant-loop-rest l = spelled_from l.n l.rest ≡ spelled l.digits

abbrev pub decreases-loop-rest : goal.decreases-loop-rest
decreases-loop-rest l = length l.rest
