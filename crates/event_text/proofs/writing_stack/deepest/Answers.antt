use Rattle.std.proofs.Common.{◌≤◌, arith, length}
use Rattle.formula.specs.Pool.{trees}
use Rattle.formula.proofs.Growth.{length-trees}
use Rattle.event_text.proofs.Depths.{deepest_of}
use Rattle.event_text.proofs.writing_stack.deepest.Goals as goal

pub returns : goal.returns
returns c =
    let long = length-trees c.args.pool.now in
    let all : length (trees c.args.pool.now) ≤ c.loop-place.place = omega (arith, long) in
    deepest_of (trees c.args.pool.now) c.loop-place.place c.loop-place.most all c.loop-place.invariant
