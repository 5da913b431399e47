use Rattle.std.proofs.Common.{◌≡◌, [], drop}
use Rattle.unit_scope.specs.Scoping.{scope_by}
use Rattle.decl_faults.specs.Commons.{is_bad_by, bad_from}
use Rattle.decl_faults.proofs.common_rules.bad_blocks.Given as goal

abbrev pub invariant-loop-line : goal.invariant-loop-line
invariant-loop-line l = bad_from (is_bad_by l.earlier (scope_by l.scope) l.table) l.seen l.bad (drop l.line-index l.unit) ≡ bad_from (is_bad_by l.earlier (scope_by l.scope) l.table) [] [] l.unit
