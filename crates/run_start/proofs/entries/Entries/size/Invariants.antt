use Rattle.std.proofs.Common.{◌≡◌, drop, Some}
use Rattle.run_start.specs.Shapes.{sized_from}
use Rattle.run_start.proofs.entries.Entries.size.Given as goal

abbrev pub invariant-loop-dim : goal.invariant-loop-dim
invariant-loop-dim l = sized_from l.self.given.now l.size (drop l.dim-index l.dims) ≡ sized_from l.self.given.now (Some 1) l.dims
