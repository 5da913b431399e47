use Rattle.std.proofs.Common.{sym, ◌∙◌, arith}
use Rattle.do_ranges.proofs.Covered.{enters_by, enters_none}
use Rattle.do_ranges.proofs.known.Ranges.enters.Goals as goal

pub returns-then-to-len : goal.returns-then-to-len
returns-then-to-len c = sym (enters_none c.args.self.now.ends.items c.requires.ranges.ends c.args.from c.args.to (omega arith))

pub returns : goal.returns
returns c =
    c.enters_point.ensures
    ∙ enters_by c.args.self.now.ends.items c.args.self.now.covers c.requires.ranges.covers c.args.from c.args.to c.requires.from (omega arith)
