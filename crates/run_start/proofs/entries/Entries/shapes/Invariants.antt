use Rattle.std.proofs.Common.{◌≡◌, drop, []}
use Rattle.run_start.specs.Shapes.{shapes_from}
use Rattle.run_start.proofs.entries.Entries.shapes.Given as goal

abbrev pub invariant-loop-name : goal.invariant-loop-name
invariant-loop-name l = shapes_from l.self.unit.now l.self.given.now l.sizes.items (drop l.name-index l.names) ≡ shapes_from l.self.unit.now l.self.given.now [] l.names
