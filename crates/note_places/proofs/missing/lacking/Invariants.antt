use Rattle.std.proofs.Common.{◌≡◌, suc, drop}
use Rattle.fort_notes.specs.Judging.{lacking_from}
use Rattle.note_places.proofs.missing.lacking.Given as goal

-- the units from `i` on decide
abbrev pub invariant-loop-i : goal.invariant-loop-i
invariant-loop-i l = lacking_from l.notes (suc l.i) (drop l.i l.units) ≡ lacking_from l.notes 1 l.units
