use Rattle.std.proofs.Common.{◌≡◌, [], drop}
use Rattle.decl_faults.specs.Commons.{tabled}
use Rattle.decl_faults.proofs.common_table.commons_of.Given as goal

abbrev pub invariant-loop-line : goal.invariant-loop-line
invariant-loop-line l = tabled l.table (drop l.line-index l.unit) ≡ tabled [] l.unit
