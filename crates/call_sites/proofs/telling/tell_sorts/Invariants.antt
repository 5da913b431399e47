use Rattle.std.proofs.Common.{◌≡◌, [], drop}
use Rattle.name_tables.specs.Tables.{all_told}
use Rattle.call_sites.specs.Books.{sorts_told}
use Rattle.call_sites.proofs.telling.tell_sorts.Given as goal

abbrev pub invariant-loop-function : goal.invariant-loop-function
invariant-loop-function l = all_told l.table (sorts_told (drop l.function-index l.functions)) ≡ all_told [] (sorts_told l.functions)
