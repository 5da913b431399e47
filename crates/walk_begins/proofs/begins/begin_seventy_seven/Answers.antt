use Rattle.std.proofs.lemmas.Result.{on_ok_weaker}
use Rattle.walk_begins.proofs.Parts.{begun_seventy_seven}
use Rattle.walk_begins.proofs.begins.begin_seventy_seven.Goals as goal

pub returns-clause-did : goal.returns-clause-did
returns-clause-did c =
    let at = c.args.at.now in
    let l = c.args.limits in
    on_ok_weaker c.enter.result
    (λ h. begun_seventy_seven at.flow.now.setting.now at.card at.point c.args.head.now c.args.choices.now c.args.walk.now c.check_trips.new.walk c.set.new.self c.enter.new.walk l.first l.last l.step
    c.check_trips.ensures.on c.set.ensures.on c.requires.first c.requires.last c.in_ok-check_trips.ensures.did c.in_ok-set.ensures.set h)
    c.enter.ensures.did
