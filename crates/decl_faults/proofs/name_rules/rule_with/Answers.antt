use Rattle.std.proofs.Common.{ap, ◌∙◌}
use Rattle.std.specs.List.{list_any}
use Rattle.formula.specs.Atoms.{is_among}
use Rattle.unit_scope.specs.Scoping.{scope_by}
use Rattle.decl_faults.specs.NameScans.{has_bad_shape, is_bad_item, first_rule}
use Rattle.decl_faults.proofs.name_rules.rule_with.Goals as goal

pub returns-clause-rule : goal.returns-clause-rule
returns-clause-rule c =
    let shape = c.has_bad_shape-shape.ensures ∙ ap (has_bad_shape c.args.dialect) c.requires in
    let is_bad = is_bad_item (λ x. is_among x c.args.known.now.dummies) (scope_by c.args.known.now.scope) in
    let adjustable = c.has_bad_item-adjustable.ensures ∙ ap (list_any is_bad) c.requires in
    c.first_rule.ensures
    ∙ (λ i. first_rule (c.in-Ok.ensures.twice i) (c.in-Ok-stmt_has_untyped.ensures i) (shape i) (c.stmt_has_new_bad-block.ensures i) (adjustable i))
