use Rattle.std.proofs.Common.{◌≡◌, ◌-◌, suc, ◌∙◌, arith}
use Rattle.run_start.proofs.Firsts.{word_step}
use Rattle.run_start.proofs.places.WordPlaces.new.Goals as goal

pub loop-left-preserved : goal.loop-left-preserved
loop-left-preserved c =
    let next : c.loop-left.left ≡ suc (c.loop-left.left - 1) = omega arith in
    let r =
    word_step c.args.words.now c.loop-left.table c.put.new.self (c.loop-left.left - 1) c.loop-left.left c.index-words-left.result c.in-Ok.had c.loop-left.twice next c.loop-left.invariant.0 c.index-words-left.is
    c.loop-left.invariant.1 c.in-Ok.ensures.told c.in-Ok.ensures.had c.loop-left.invariant.2 in
    (r.0, r.1, c.either-twice.ensures ∙ r.2)
