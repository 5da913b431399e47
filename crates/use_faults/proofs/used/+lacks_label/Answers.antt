use Rattle.std.proofs.Common.{ap, sym, ◌∙◌}
use Rattle.fort_syntax.specs.Uses.{used_labels}
use Rattle.use_faults.specs.UseScans.{has_label_in, lacks_label}
use Rattle.use_faults.proofs.CarriedLabels.{labels_by_if}
use Rattle.use_faults.proofs.used.+lacks_label.Goals as goal

pub returns-in-LogicalIf : goal.returns-in-LogicalIf
returns-in-LogicalIf t c =
    let lacks = lacks_label (has_label_in c.args.lines.now) in
    c.lacks_label.ensures ∙ ap (λ s. lacks (used_labels s)) c.get.ensures
    ∙ sym (ap (λ s. lacks (used_labels s)) c.in-LogicalIf.is ∙ ap lacks (labels_by_if c.in-LogicalIf.field-0 c.in-LogicalIf.carried))
