use Rattle.std.proofs.Common.{length, ◌+◌, ◌-◌, ◌≡◌, ◌≤◌, drop}
use Rattle.formula.specs.Atoms.{is_digit}
use Rattle.event_reading.specs.Readings.{run_length}
use Rattle.event_reading.proofs.tokens.digits_length.Given as goal

-- the bytes passed are of the kind
abbrev pub invariant-loop-end : goal.invariant-loop-end
invariant-loop-end l = (l.end ≤ length l.text) × (l.end + run_length is_digit (drop l.end l.text) ≡ run_length is_digit l.text)

abbrev pub decreases-loop-end : goal.decreases-loop-end
decreases-loop-end l = length l.text - l.end
