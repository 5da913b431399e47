use Rattle.std.proofs.Common.{ap, sym, ◌∙◌}
use Rattle.std.specs.Prelude.{◌&&◌}
use Rattle.fort_syntax.specs.TypeRules.{gives_integer, gives_logical, are_fit_arguments, has_fit_operands}
use Rattle.unit_scope.specs.Scoping.{scope_by}
use Rattle.type_faults.proofs.Typings.{fit_apply, fit_power, fit_bin, fit_rel, fit_and, fit_or}
use Rattle.type_faults.proofs.typing.has_fit_operands.Goals as goal

pub returns-in-Apply : goal.returns-in-Apply
returns-in-Apply c =
    let s = scope_by c.args.scope.now in
    c.are_fit_arguments.ensures ∙ ap (are_fit_arguments s c.in-Apply.f) c.as_slice.ensures
    ∙ sym (ap (has_fit_operands s) c.in-Apply.is ∙ fit_apply s c.in-Apply.f c.in-Apply.args)

pub returns-in-Power : goal.returns-in-Power
returns-in-Power c =
    let s = scope_by c.args.scope.now in
    c.gives_integer-in-Power.ensures ∙ ap (gives_integer s) c.get-in-Power.ensures
    ∙ sym (ap (has_fit_operands s) c.in-Power.is ∙ fit_power s c.in-Power.a c.in-Power.field-1)

pub returns-in-Bin : goal.returns-in-Bin
returns-in-Bin c =
    let s = scope_by c.args.scope.now in
    c.both_integers.ensures ∙ (λ i. gives_integer s (c.get-in-Bin.ensures i) && gives_integer s (c.get-in-Bin-2.ensures i))
    ∙ sym (ap (has_fit_operands s) c.in-Bin.is ∙ fit_bin s c.in-Bin.field-0 c.in-Bin.a c.in-Bin.b)

pub returns-in-Rel : goal.returns-in-Rel
returns-in-Rel c =
    let s = scope_by c.args.scope.now in
    c.both_integers-in-Rel.ensures ∙ (λ i. gives_integer s (c.get-in-Rel.ensures i) && gives_integer s (c.get-in-Rel-2.ensures i))
    ∙ sym (ap (has_fit_operands s) c.in-Rel.is ∙ fit_rel s c.in-Rel.field-0 c.in-Rel.a c.in-Rel.b)

pub returns-in-And : goal.returns-in-And
returns-in-And c =
    let s = scope_by c.args.scope.now in
    c.both_logical.ensures ∙ (λ i. gives_logical s (c.get-in-And.ensures i) && gives_logical s (c.get-in-And-2.ensures i))
    ∙ sym (ap (has_fit_operands s) c.in-And.is ∙ fit_and s c.in-And.a c.in-And.b)

pub returns-in-Or : goal.returns-in-Or
returns-in-Or c =
    let s = scope_by c.args.scope.now in
    c.both_logical-in-Or.ensures ∙ (λ i. gives_logical s (c.get-in-Or.ensures i) && gives_logical s (c.get-in-Or-2.ensures i))
    ∙ sym (ap (has_fit_operands s) c.in-Or.is ∙ fit_or s c.in-Or.a c.in-Or.b)
