use Rattle.std.proofs.Common.{◌≡◌, drop}
use Rattle.std.specs.Prelude.{map}
use Rattle.fort_syntax.specs.Units.{name_of_block}
use Rattle.name_tables.specs.Sets.{with_names}
use Rattle.unit_decl.proofs.unit_blocks.add_groups.Given as goal

abbrev pub invariant-loop-group : goal.invariant-loop-group
invariant-loop-group l = with_names l.blocks (map (λ g. name_of_block g.block) (drop l.group-index l.groups)) ≡ with_names l.initial.blocks (map (λ g. name_of_block g.block) l.groups)
