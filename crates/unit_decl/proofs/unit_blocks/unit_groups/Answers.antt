use Rattle.std.proofs.Common.{◌∙◌}
use Rattle.std.specs.Prelude.{map}
use Rattle.unit_scope.specs.Scoping.{scope_by}
use Rattle.unit_decl.specs.UnitParts.{group_in}
use Rattle.unit_decl.proofs.UnitMade.{groups_made}
use Rattle.unit_decl.proofs.unit_blocks.unit_groups.Goals as goal

pub returns : goal.returns
returns c =
    c.in-Ok-groups_of.ensures
    ∙ (λ i. map (group_in (scope_by c.args.scope.now) (c.in-Ok.ensures i)) ((c.keys.ensures ∙ c.in-Ok-blocks_of.ensures) i))
    ∙ groups_made c.args.unit.now (scope_by c.args.scope.now) c.requires
