use Rattle.std.proofs.Common.{◌∙◌}
use Rattle.do_ranges.proofs.Covered.{leaves_by}
use Rattle.do_ranges.proofs.known.Ranges.leaves.Goals as goal

pub returns : goal.returns
returns c =
    c.leaves_point.ensures
    ∙ leaves_by c.args.self.now.ends.items c.args.self.now.covers c.requires.ranges.covers c.args.from c.args.to c.requires.from c.requires.to
