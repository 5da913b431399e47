use Rattle.std.proofs.Common.{◌≡◌, drop}
use Rattle.fort_notes.specs.Judging.{last_end}
use Rattle.note_judging.proofs.seating.last_end.Given as goal

-- the units from the index on decide
abbrev pub invariant-loop-unit : goal.invariant-loop-unit
invariant-loop-unit l = last_end l.last (drop l.unit-index l.units) ≡ last_end 0 l.units
