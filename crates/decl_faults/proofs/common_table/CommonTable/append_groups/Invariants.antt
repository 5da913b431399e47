use Rattle.std.proofs.Common.{◌≡◌, drop}
use Rattle.decl_faults.specs.Commons.{with_groups}
use Rattle.decl_faults.proofs.common_table.CommonTable.append_groups.Given as goal

abbrev pub invariant-loop-group : goal.invariant-loop-group
invariant-loop-group l = with_groups l.self (drop l.group-index l.groups) ≡ with_groups l.initial.self l.groups
