use Rattle.std.proofs.Common.{ap, sym, ◌∙◌}
use Rattle.fort_syntax.specs.TypeRules.{is_multiple}
use Rattle.unit_scope.specs.Scoping.{scope_by}
use Rattle.type_faults.specs.PlainForms.{multiple}
use Rattle.type_faults.proofs.PlainSubscripts.{multiple_bin}
use Rattle.type_faults.proofs.subscripts.is_multiple.Goals as goal

pub returns-in-Bin : goal.returns-in-Bin
returns-in-Bin c =
    let s = scope_by c.args.scope.now in
    c.multiple.ensures ∙ (λ i. multiple s c.in-Bin.op (c.get.ensures i) (c.get-in-Bin.ensures i))
    ∙ sym (ap (is_multiple s) c.in-Bin.is ∙ multiple_bin s c.in-Bin.op c.in-Bin.a c.in-Bin.b)
