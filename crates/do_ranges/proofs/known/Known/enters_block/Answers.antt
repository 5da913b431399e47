use Rattle.std.proofs.Common.{sym, ap, ◌∙◌}
use Rattle.fort_model.specs.Ranges.{enters}
use Rattle.do_ranges.specs.Ends.{some_range}
use Rattle.do_ranges.proofs.Covered.{enters_points}
use Rattle.do_ranges.proofs.Ending.{blocks_are}
use Rattle.do_ranges.proofs.known.Known.enters_block.Goals as goal

pub returns : goal.returns
returns c =
    c.enters.ensures ∙ ap (some_range (enters c.args.from c.args.to) 0) c.requires.known.blocks
    ∙ sym (blocks_are (enters c.args.from c.args.to) (enters_points c.args.from c.args.to) c.args.unit.now)
