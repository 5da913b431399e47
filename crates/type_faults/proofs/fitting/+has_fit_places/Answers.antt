use Rattle.std.proofs.Common.{ap, sym, ◌∙◌}
use Rattle.std.specs.Prelude.{◌&&◌}
use Rattle.fort_syntax.specs.TypeRules.{has_fit_places}
use Rattle.unit_scope.specs.Scoping.{scope_by}
use Rattle.type_faults.proofs.Fittings.{places_by_if}
use Rattle.type_faults.proofs.fitting.+has_fit_places.Goals as goal

pub returns-in-LogicalIf : goal.returns-in-LogicalIf
returns-in-LogicalIf t c =
    let s = scope_by c.args.scope.now in
    c.both.ensures
    ∙ (λ i. c.gives_logical.ensures i && (c.has_fit_places.ensures ∙ ap (has_fit_places s) c.get.ensures) i)
    ∙ sym (ap (has_fit_places s) c.in-LogicalIf.is ∙ places_by_if s c.in-LogicalIf.e c.in-LogicalIf.carried)
