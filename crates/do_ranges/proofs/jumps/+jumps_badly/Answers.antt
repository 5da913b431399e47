use Rattle.std.proofs.Common.{sym, ap, ◌∙◌}
use Rattle.fort_model.specs.Ranges.{jumps_badly}
use Rattle.do_ranges.proofs.Carried.{jumps_by_if}
use Rattle.do_ranges.proofs.jumps.+jumps_badly.Goals as goal

pub returns-in-LogicalIf : goal.returns-in-LogicalIf
returns-in-LogicalIf t c =
    let jumps = jumps_badly c.args.unit.now c.args.at in
    c.jumps_badly.ensures ∙ ap jumps c.get.ensures ∙ sym (ap jumps c.in-LogicalIf.is ∙ jumps_by_if c.args.unit.now c.args.at c.in-LogicalIf.field-0 c.in-LogicalIf.carried)
