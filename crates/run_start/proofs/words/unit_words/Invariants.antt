use Rattle.std.proofs.Common.{◌≡◌, ◌++◌, drop}
use Rattle.run_start.specs.Places.{names_of_units}
use Rattle.run_start.proofs.words.unit_words.Given as goal

abbrev pub invariant-loop-unit : goal.invariant-loop-unit
invariant-loop-unit l = l.words.items ++ names_of_units (drop l.unit-index l.units) ≡ names_of_units l.units
