use Rattle.std.proofs.Common.{ap, ◌∙◌}
use Rattle.do_ranges.specs.Clocks.{clock_fault}
use Rattle.do_ranges.proofs.Joined.{joined_tells}
use Rattle.do_ranges.proofs.Rangeless.{clock_alone}
use Rattle.do_ranges.proofs.stage.first_fault.Goals as goal

pub returns : goal.returns
returns c = λ p i pool notes.
    joined_tells c.args.unit.now p i c.args.spec.now pool notes c.requires
    c.bad_last-last.result c.crossed-crossed.result c.bad_jump-jump.result c.bad_clock-clock.result c.sooner.result c.sooner-2.result c.sooner-3.result
    c.bad_last-last.ensures c.crossed-crossed.ensures c.bad_jump-jump.ensures (c.bad_clock-clock.ensures ∙ ap clock_fault c.as_slice.ensures)
    c.sooner.ensures c.sooner-2.ensures c.sooner-3.ensures

pub returns-then-not-has_ranges : goal.returns-then-not-has_ranges
returns-then-not-has_ranges c = λ p i pool notes.
    clock_alone c.args.unit.now p i c.args.spec.now pool notes c.requires c.as_slice-2.result.now c.has_ranges.result c.bad_clock-clock.result
    c.as_slice-2.ensures c.has_ranges.ensures c.if-not-has_ranges.true (c.bad_clock-clock.ensures ∙ ap clock_fault c.as_slice.ensures)
