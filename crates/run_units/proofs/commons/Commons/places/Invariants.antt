use Rattle.std.proofs.Common.{◌≡◌, ◌++◌, drop, map}
use Rattle.run_coding.specs.Pushed.{slot_in}
use Rattle.run_units.proofs.commons.Commons.places.Given as goal

abbrev pub invariant-loop-at : goal.invariant-loop-at
invariant-loop-at l = l.places.items ++ map (slot_in l.self.names.now) (drop l.at l.names) ≡ map (slot_in l.self.names.now) (drop l.first l.names)
