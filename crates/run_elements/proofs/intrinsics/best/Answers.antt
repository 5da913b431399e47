use Rattle.std.proofs.Common.{◌≡◌, suc, ◌-◌, ◌<◌, rules, arith}
use Rattle.run_elements.specs.Elements.{better}
use Rattle.run_elements.proofs.Depths.{next_from}
use Rattle.run_elements.proofs.intrinsics.best.Goals as goal

pub loop-depth-preserved : goal.loop-depth-preserved
loop-depth-preserved c =
    let some : 0 < c.loop-depth.depth = c.loop-depth-test.true in
    let within : c.loop-depth.depth < c.args.count = c.loop-depth.invariant.0 in
    let more : c.loop-depth.depth ≡ suc (c.loop-depth.depth - 1) = omega arith in (
      omega arith,
      next_from (better c.args.least) c.args.values.now.items c.args.count c.loop-depth.depth (c.loop-depth.depth - 1) _ _ c.num.result more within
          (search rules)
          c.loop-depth.invariant.1
          (search rules),
    )
