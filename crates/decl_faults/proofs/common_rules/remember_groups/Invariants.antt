use Rattle.std.proofs.Common.{◌≡◌, drop}
use Rattle.std.specs.Prelude.{map}
use Rattle.fort_syntax.specs.Units.{name_of_block}
use Rattle.decl_faults.specs.Facts.{members_by}
use Rattle.decl_faults.specs.Commons.{remembered}
use Rattle.decl_faults.proofs.common_rules.remember_groups.Given as goal

abbrev pub invariant-loop-group : goal.invariant-loop-group
invariant-loop-group l = remembered (members_by l.known) l.earlier (map (λ g. name_of_block g.block) (drop l.group-index l.groups)) ≡ remembered (members_by l.known) l.initial.earlier (map (λ g. name_of_block g.block) l.groups)
