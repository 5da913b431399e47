use Rattle.std.proofs.Common.{◌≡◌, [], drop}
use Rattle.name_tables.specs.Tables.{all_told}
use Rattle.call_sites.specs.Books.{numbered}
use Rattle.call_sites.proofs.telling.tell_numbers.Given as goal

abbrev pub invariant-loop-k : goal.invariant-loop-k
invariant-loop-k l = all_told l.table (numbered (drop l.k l.names) l.k) ≡ all_told [] (numbered l.names 0)
