use Rattle.std.proofs.Common.{◌≡◌, ◌-◌, suc, arith}
use Rattle.try_lines.proofs.Firsts.{place_step}
use Rattle.try_lines.proofs.lemmas.Places.new.Goals as goal

pub loop-left-preserved : goal.loop-left-preserved
loop-left-preserved c =
    let next : c.loop-left.left ≡ suc (c.loop-left.left - 1) = omega arith in
    place_step c.args.conditions.now c.loop-left.places c.tell.new.self (c.loop-left.left - 1) c.loop-left.left
    c.in_ok-name.name c.index-conditions-left.result next c.loop-left.invariant.0 c.index-conditions-left.is c.in_ok-name.ensures
    c.loop-left.invariant.1 c.in_ok-tell.ensures
