use Rattle.std.proofs.Common.{ap, sym, ◌∙◌}
use Rattle.std.specs.Prelude.{◌&&◌}
use Rattle.unit_scope.specs.Scoping.{scope_by}
use Rattle.type_faults.specs.Parts.{test_by, stmt_holds}
use Rattle.type_faults.proofs.Fittings.{held_by_if}
use Rattle.type_faults.proofs.fitting.+stmt_fits.Goals as goal

pub returns-in-LogicalIf : goal.returns-in-LogicalIf
returns-in-LogicalIf t c =
    let test = test_by c.args.check (scope_by c.args.scope.now) in
    c.both.ensures
    ∙ (λ i. c.parts_fit-in-LogicalIf.ensures i && (c.stmt_fits.ensures ∙ ap (stmt_holds test) c.get.ensures) i)
    ∙ sym (ap (stmt_holds test) c.in-LogicalIf.is ∙ held_by_if test c.in-LogicalIf.e c.in-LogicalIf.carried)
