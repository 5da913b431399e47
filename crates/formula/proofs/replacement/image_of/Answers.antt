use Rattle.std.proofs.Common.{◌+◌, ◌-◌, ◌/◌, ◌<◌, ◌≤◌, ℕ, get_or, arith}
use Rattle.formula.proofs.Images.{go_down, go_up}
use Rattle.formula.proofs.replacement.image_of.Goals as goal

pub loop-high-preserved-then-images-middle : goal.loop-high-preserved-then-images-middle
loop-high-preserved-then-images-middle c =
    let low = c.loop-high.low in
    let high = c.loop-high.high in
    let middle : ℕ = low + (high - low) / 2 in
    let before : middle < high = omega arith in
    let at : (get_or c.args.images.now middle (record { id = record { place = 0 }; made = record { place = 0 } })).id.place ≤ c.args.id.place = omega arith in
    record {
      within = c.loop-high.invariant.within;
      order = omega arith;
      between = go_up c.args.images.now c.args.id low middle high c.requires.ascending c.loop-high.invariant.within before at c.loop-high.invariant.between;
    }

pub loop-high-preserved : goal.loop-high-preserved
loop-high-preserved c =
    let low = c.loop-high.low in
    let high = c.loop-high.high in
    let middle : ℕ = low + (high - low) / 2 in
    let before : middle < high = omega arith in
    let at : c.args.id.place < (get_or c.args.images.now middle (record { id = record { place = 0 }; made = record { place = 0 } })).id.place = omega arith in
    record {
      within = omega arith;
      order = omega arith;
      between = go_down c.args.images.now c.args.id low middle high c.requires.ascending c.loop-high.invariant.within before at c.loop-high.invariant.between;
    }
