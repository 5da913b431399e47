use Rattle.std.proofs.Common.{◌≡◌, suc, ◌+◌, ◌-◌, arith}
use Rattle.weight_expr.proofs.Powers.{one_factor}
use Rattle.weight_expr.proofs.operations.power_from.Goals as goal

pub loop-preserved : goal.loop-preserved
loop-preserved c =
    let more : c.args.others - c.loop.counter ≡ suc (c.args.others - (c.loop.counter + 1)) = omega arith in
    one_factor c.args.base c.loop.product c.plus-product.result c.next.result (c.args.others - c.loop.counter) (c.args.others - (c.loop.counter + 1)) c.loop.load c.test.new.self _ more c.next.ensures c.plus-product.ensures c.test.ensures c.loop.invariant
