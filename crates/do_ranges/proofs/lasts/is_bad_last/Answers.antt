use Rattle.std.proofs.Common.{sym, ap, ◌∙◌}
use Rattle.fort_model.specs.Ranges.{is_jump, is_bad_last}
use Rattle.do_ranges.proofs.Carried.{last_by_if}
use Rattle.do_ranges.proofs.lasts.is_bad_last.Goals as goal

pub returns-in-LogicalIf : goal.returns-in-LogicalIf
returns-in-LogicalIf c =
    c.is_jump.ensures ∙ ap is_jump c.get.ensures ∙ sym (ap is_bad_last c.in-LogicalIf.is ∙ last_by_if c.in-LogicalIf.field-0 c.in-LogicalIf.carried)
