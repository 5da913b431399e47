use Rattle.std.proofs.Common.{sym, ap, ◌∙◌}
use Rattle.fort_model.specs.Ranges.{leaves}
use Rattle.do_ranges.specs.Ends.{some_range}
use Rattle.do_ranges.proofs.Covered.{leaves_points}
use Rattle.do_ranges.proofs.Ending.{blocks_are}
use Rattle.do_ranges.proofs.known.Known.leaves_block.Goals as goal

pub returns : goal.returns
returns c =
    c.leaves.ensures ∙ ap (some_range (leaves c.args.from c.args.to) 0) c.requires.known.blocks
    ∙ sym (blocks_are (leaves c.args.from c.args.to) (leaves_points c.args.from c.args.to) c.args.unit.now)
