use Rattle.std.proofs.Common.{ap, sym, ◌∙◌}
use Rattle.fort_syntax.specs.TypeRules.{is_plain_subscript}
use Rattle.unit_scope.specs.Scoping.{scope_by}
use Rattle.type_faults.specs.PlainForms.{plain}
use Rattle.type_faults.proofs.PlainSubscripts.{plain_bin}
use Rattle.type_faults.proofs.subscripts.is_plain_subscript.Goals as goal

pub returns-in-Bin : goal.returns-in-Bin
returns-in-Bin c =
    let s = scope_by c.args.scope.now in
    c.plain.ensures ∙ (λ i. plain s c.in-Bin.op (c.get.ensures i) (c.get-in-Bin.ensures i))
    ∙ sym (ap (is_plain_subscript s) c.in-Bin.is ∙ plain_bin s c.in-Bin.op c.in-Bin.a c.in-Bin.b)
