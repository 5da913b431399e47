use Rattle.std.proofs.Common.{◌≡◌, drop}
use Rattle.std.specs.Prelude.{map}
use Rattle.fort_syntax.specs.Units.{name_of_block}
use Rattle.name_tables.specs.Sets.{with_names}
use Rattle.unit_scope.specs.Scoping.{scope_by}
use Rattle.decl_faults.specs.Commons.{is_bad_by, bad_in}
use Rattle.decl_faults.proofs.common_rules.mark_groups.Given as goal

abbrev pub invariant-loop-group : goal.invariant-loop-group
invariant-loop-group l = record {
  seen : with_names l.seen (map (λ g. name_of_block g.block) (drop l.group-index l.groups)) ≡ with_names l.initial.seen (map (λ g. name_of_block g.block) l.groups);
  bad : bad_in (is_bad_by l.earlier (scope_by l.scope) l.table) l.seen l.bad (map (λ g. name_of_block g.block) (drop l.group-index l.groups))
      ≡ bad_in (is_bad_by l.earlier (scope_by l.scope) l.table) l.initial.seen l.initial.bad (map (λ g. name_of_block g.block) l.groups);
}
