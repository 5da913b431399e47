use Rattle.std.proofs.Common.{◌≡◌, [], drop}
use Rattle.run_units.specs.Commons.{commons_of}
use Rattle.run_units.proofs.commons.commons_of_units.Given as goal

abbrev pub invariant-loop-unit : goal.invariant-loop-unit
invariant-loop-unit l = commons_of l.set (drop l.unit-index l.units) ≡ commons_of [] l.units
