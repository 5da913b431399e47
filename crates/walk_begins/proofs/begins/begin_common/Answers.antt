use Rattle.std.proofs.lemmas.Result.{on_ok_weaker}
use Rattle.walk_begins.proofs.Parts.{begun_common}
use Rattle.walk_begins.proofs.begins.begin_common.Goals as goal

pub returns-clause-did : goal.returns-clause-did
returns-clause-did c =
    let at = c.args.at.now in
    let l = c.args.limits in
    on_ok_weaker c.set.result
    (λ e. begun_common at.flow.now.setting.now at.card at.point c.args.head.now c.args.choices.now c.args.walk.now c.check_loop.new.walk c.set.new.self l.first l.last l.step c.check_loop.ensures.on c.requires.first c.in_ok-check_loop.ensures.did e)
    c.set.ensures.set
