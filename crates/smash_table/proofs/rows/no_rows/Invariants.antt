use Rattle.std.proofs.Common.{◌≡◌, replicate, []}
use Rattle.smash_table.proofs.rows.no_rows.Given as goal

abbrev pub invariant-loop : goal.invariant-loop
invariant-loop l = l.rows.items ≡ replicate l.counter []
