use Rattle.std.proofs.Common.{ap, ◌∙◌}
use Rattle.use_faults.specs.Roles.{use_facts_by}
use Rattle.unit_scope.specs.Scoping.{scope_by}
use Rattle.use_faults.specs.UseScans.{has_bad_use, used_with}
use Rattle.use_faults.proofs.use_rules.stmt_has_bad_use.Goals as goal

pub returns-clause-bad : goal.returns-clause-bad
returns-clause-bad c =
    let facts = use_facts_by c.args.roles.now c.args.own.now in
    let uses = c.as_slice-2.ensures ∙ c.in-Ok.ensures in
    let after =
    c.in-Ok-add.ensures ∙ ap (λ u. used_with (scope_by c.args.roles.now.scope) c.args.used.now u c.args.line.now.label) (c.as_slice.ensures ∙ c.in-Ok.ensures) in
    c.has_bad_use.ensures ∙ (λ i. has_bad_use facts (after i) (uses i))
