use Rattle.std.proofs.Common.{◌≡◌, replicate}
use Rattle.note_units.specs.Sorting.{nothing}
use Rattle.note_units.proofs.sorting.empty.Given as goal

-- the units so far have no notes
abbrev pub invariant-loop : goal.invariant-loop
invariant-loop l = l.units.items ≡ replicate l.counter nothing
