use Rattle.std.proofs.Common.{ap, ◌∙◌}
use Rattle.unit_scope.specs.Scoping.{scope_by}
use Rattle.unit_decl.specs.UnitParts.{data_names_in, functions_in}
use Rattle.unit_decl.proofs.UnitMade.{unit_made}
use Rattle.unit_decl.proofs.deck_units.unit_of.Goals as goal

pub returns : goal.returns
returns c =
    let roles = c.in-Ok.roles in
    unit_made c.args.unit.now roles c.in-Some.name c.in-Ok-data_names.names c.in-Ok-functions.functions c.function_sort.result
    c.first_card.result c.last_card.result c.in-Ok-dummies.dummies c.in-Ok-unit_groups.groups c.in-Ok-lines.lines
    c.in-Ok.ensures.facts c.in-Ok.ensures.names c.in-Ok.ensures.references c.in-Some.ensures.name
    (c.in-Ok-data_names.ensures ∙ ap (λ own. data_names_in roles own roles.names) c.as_bytes.ensures.value)
    (c.in-Ok-functions.ensures ∙ ap (functions_in (scope_by roles.scope)) c.names.ensures)
    c.function_sort.ensures c.first_card.ensures c.last_card.ensures c.in-Ok-dummies.ensures c.in-Ok-unit_groups.ensures c.in-Ok-lines.ensures
