use Rattle.std.proofs.Common.{◌≡◌, drop}
use Rattle.decl_faults.specs.Facts.{members_by}
use Rattle.decl_faults.specs.Commons.{remembered_from}
use Rattle.decl_faults.proofs.common_rules.remember_unit.Given as goal

abbrev pub invariant-loop-line : goal.invariant-loop-line
invariant-loop-line l = remembered_from (members_by l.known) l.earlier (drop l.line-index l.unit) ≡ remembered_from (members_by l.known) l.initial.earlier l.unit
