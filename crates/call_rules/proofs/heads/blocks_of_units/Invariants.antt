use Rattle.std.proofs.Common.{◌≡◌, [], drop}
use Rattle.call_rules.specs.Taken.{with_units}
use Rattle.call_rules.proofs.heads.blocks_of_units.Given as goal

abbrev pub invariant-loop-unit : goal.invariant-loop-unit
invariant-loop-unit l = with_units l.set (drop l.unit-index l.units) ≡ with_units [] l.units
