use Rattle.std.proofs.Common.{◌≡◌, ◌≤◌, ◌+◌, drop, length}
use Rattle.fort_syntax.specs.Names.{own_in}
use Rattle.run_units.proofs.commons.count_own.Given as goal

abbrev pub invariant-loop-data : goal.invariant-loop-data
invariant-loop-data l = (l.count + length (own_in (drop l.data-index l.names)) ≡ length (own_in l.names)) × (l.count ≤ l.data-index)
