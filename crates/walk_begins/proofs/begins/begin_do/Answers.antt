use Rattle.std.proofs.lemmas.Result.{on_ok_weaker}
use Rattle.formula.specs.Pool.{tree_of}
use Rattle.formula.specs.Tree.{Tree}
use Rattle.walk_state.specs.Moments.{moment}
use Rattle.walk_begins.proofs.Parts.{begins_then, limits_at}
use Rattle.walk_begins.proofs.begins.begin_do.Goals as goal

pub returns-clause-did : goal.returns-clause-did
returns-clause-did c =
    let at = c.args.at.now in
    let s = at.flow.now.setting.now in
    let head = c.args.head.now in
    let w0 = c.args.walk.now in
    let w1 = c.limits_of.new.walk in
    let m = c.in_ok-limits.limits in
    let all : Tree × Tree × Tree = (tree_of w1.pool m.first, tree_of w1.pool m.last, tree_of w1.pool m.step) in
    on_ok_weaker c.begin_with.result
    (λ h. begins_then s at.card at.point head c.args.choices.now w0 w1 c.begin_with.new.walk all c.limits_of.ensures.on
    (limits_at w0.pool c.at_card.result.setting.now s c.at_card.result.number at.card (moment w0) (moment w1) head.first head.last head.step all c.at_card.ensures.setting c.at_card.ensures.number c.in_ok-limits.ensures.did) h)
    c.begin_with.ensures.did
