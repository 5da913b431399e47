use Rattle.std.proofs.Common.{◌≡◌, [], replicate}
use Rattle.loop_tables.proofs.found.places.Given as goal

abbrev pub invariant-loop : goal.invariant-loop
invariant-loop l = l.table.items ≡ replicate l.counter []
