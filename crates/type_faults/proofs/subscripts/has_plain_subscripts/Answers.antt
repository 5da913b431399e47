use Rattle.std.proofs.Common.{ap, sym, ◌∙◌}
use Rattle.fort_syntax.specs.TypeRules.{has_plain_subscripts}
use Rattle.unit_scope.specs.Scoping.{scope_by}
use Rattle.type_faults.specs.PlainForms.{are_plain_arguments}
use Rattle.type_faults.proofs.PlainSubscripts.{plain_apply}
use Rattle.type_faults.proofs.subscripts.has_plain_subscripts.Goals as goal

pub returns-in-Apply : goal.returns-in-Apply
returns-in-Apply c =
    let s = scope_by c.args.scope.now in
    c.are_plain_arguments.ensures ∙ ap (are_plain_arguments s c.in-Apply.f) c.as_slice.ensures
    ∙ sym (ap (has_plain_subscripts s) c.in-Apply.is ∙ plain_apply s c.in-Apply.f c.in-Apply.args)
