use Rattle.std.proofs.Common.{List, ap, ◌∙◌}
use Rattle.fort_syntax.specs.Scopes.{once}
use Rattle.fort_syntax.specs.Units.{gathered, names_in, references_in}
use Rattle.fort_syntax.specs.Uses.{uses_of}
use Rattle.fort_syntax.specs.declared.name.Name.{Name}
use Rattle.decl_faults.specs.Commons.{given_from}
use Rattle.unit_scope.specs.Scoping.{scope_by}
use Rattle.use_faults.specs.UseScans.{assigned_from}
use Rattle.use_faults.proofs.OnceNames.{given_once}
use Rattle.use_faults.proofs.RoleFacts.{roles_made, references_listed}
use Rattle.use_faults.proofs.roles.roles_of.Goals as goal

pub returns-clause-facts : goal.returns-clause-facts
returns-clause-facts c =
    roles_made c.args.unit.now c.in-Ok.scope c.in-Ok-dummies_of.dummies c.in-Ok-commons_of.commons c.gather.new.gathered.names c.gather.new.gathered.references
    c.in-Ok-lines_of.lines c.gather.new.gathered.assigned c.is_function-function.result
    c.in-Ok.ensures c.in-Ok-dummies_of.ensures c.in-Ok-commons_of.ensures
    (c.in-Ok-gather.ensures.names ∙ ap (λ (set : List Name). given_from names_in set c.args.unit.now) c.new.ensures)
    (c.in-Ok-gather.ensures.references ∙ ap (λ (set : List Name). given_from (λ s. references_in (scope_by c.in-Ok.scope) (uses_of s)) set c.args.unit.now) c.new-2.ensures)
    c.in-Ok-lines_of.ensures
    (c.in-Ok-gather.ensures.assigned ∙ ap (λ own. assigned_from own c.args.unit.now) c.own_name.ensures) c.is_function-function.ensures

pub returns-clause-names : goal.returns-clause-names
returns-clause-names c =
    c.in-Ok-gather.ensures.names ∙ ap (λ (set : List Name). given_from names_in set c.args.unit.now) c.new.ensures ∙ given_once names_in c.args.unit.now

pub returns-clause-references : goal.returns-clause-references
returns-clause-references c =
    c.in-Ok-gather.ensures.references ∙ ap (λ (set : List Name). given_from (λ s. references_in (scope_by c.in-Ok.scope) (uses_of s)) set c.args.unit.now) c.new-2.ensures
    ∙ given_once (λ s. references_in (scope_by c.in-Ok.scope) (uses_of s)) c.args.unit.now
    ∙ ap once (references_listed (scope_by c.in-Ok.scope) c.args.unit.now)
    ∙ ap (λ scope. once (references_in scope (gathered uses_of c.args.unit.now))) c.in-Ok.ensures
