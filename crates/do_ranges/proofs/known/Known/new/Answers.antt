use Rattle.std.proofs.Common.{sym, ap, ◌∙◌, subst, length}
use Rattle.range_cover.specs.Covers.{AreEnds}
use Rattle.unit_points.specs.Labels.{AreLabelsOf}
use Rattle.do_ranges.specs.Ends.{do_end, block_end}
use Rattle.do_ranges.proofs.Ending.{do_ends_are, block_ends_are, ends_long}
use Rattle.do_ranges.proofs.known.Known.new.Goals as goal

pub new-requires-2 : goal.new-requires-2
new-requires-2 c = subst AreEnds (sym c.in_ok-do_list.ensures) (do_ends_are c.args.unit.now)

pub new-requires-3 : goal.new-requires-3
new-requires-3 c = subst AreEnds (sym c.in_ok-block_list.ensures) (block_ends_are c.args.unit.now)

pub returns : goal.returns
returns c =
    let dos = c.in_ok-dos.ensures.ends ∙ c.in_ok-do_list.ensures in
    let blocks = c.in_ok-blocks.ensures.ends ∙ c.in_ok-block_list.ensures in
    record {
      labels = subst (λ ls. AreLabelsOf ls c.in_ok-labels.labels) c.as_slice.ensures c.in_ok-labels.ensures;
      turns = c.in_ok-turns.ensures;
      dos = dos;
      blocks = blocks;
      do_long = ap length dos ∙ ends_long (do_end c.args.unit.now) 0 c.args.unit.now.lines;
      block_long = ap length blocks ∙ ends_long (block_end c.args.unit.now) 0 c.args.unit.now.lines;
      do_ranges = c.in_ok-dos.ensures.ranges;
      block_ranges = c.in_ok-blocks.ensures.ranges;
    }
