use Rattle.std.proofs.Common.{◌≡◌, replicate}
use Rattle.run_doing.proofs.ways.no_places.Given as goal

abbrev pub invariant-loop : goal.invariant-loop
invariant-loop l = l.places.items ≡ replicate l.counter 0
