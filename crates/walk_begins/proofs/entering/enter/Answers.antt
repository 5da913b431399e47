use Rattle.std.proofs.Common.{length, take, drop, ◌-◌, get_or}
use Rattle.std.proofs.lemmas.Result.{on_ok_weaker}
use Rattle.walk_state.specs.Moments.{moment}
use Rattle.walk_begins.proofs.Parts.{entered_by, first_rest, is_entered, is_one, is_other, not_entered}
use Rattle.walk_begins.proofs.entering.enter.Goals as goal

pub returns-then-choice-eq1-clause-did : goal.returns-then-choice-eq1-clause-did
returns-then-choice-eq1-clause-did c =
    let at = c.args.at.now in
    let s = at.flow.now.setting.now in
    let cs = c.args.choices.now in
    let choice = get_or cs 0 0 in
    let more = take (length cs - 1) (drop 1 cs) in
    let w0 = c.args.walk.now in
    let w1 = c.take_at_most.new.walk in
    let l = c.args.limits in
    on_ok_weaker c.take_at_most.result
    (λ d. entered_by s c.args.label at.point choice more w0 w1 l.first l.last cs (first_rest cs c.in-len1-up.len_at_least) (moment w1)
    (is_entered s c.args.label at.point choice more w0 w1 l.first l.last (is_one choice c.if-choice-eq1.true) d))
    c.take_at_most.ensures.did

pub returns-clause-did : goal.returns-clause-did
returns-clause-did c =
    let at = c.args.at.now in
    let s = at.flow.now.setting.now in
    let cs = c.args.choices.now in
    let choice = get_or cs 0 0 in
    let more = take (length cs - 1) (drop 1 cs) in
    let w0 = c.args.walk.now in
    let w1 = c.take_less.new.walk in
    let w2 = c.pass_over.new.walk in
    let l = c.args.limits in
    on_ok_weaker c.pass_over.result
    (λ h. entered_by s c.args.label at.point choice more w0 w1 l.first l.last cs (first_rest cs c.in-len1-up.len_at_least) (moment w2)
    (not_entered s c.args.label at.point choice more w0 w1 l.first l.last w2 (is_other choice c.if-choice-eq1.false) c.take_less.ensures.on c.in_ok-take_less.ensures.did h))
    c.pass_over.ensures.did
