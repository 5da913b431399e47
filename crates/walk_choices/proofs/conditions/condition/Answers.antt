use Rattle.std.proofs.Common.{sym, ◌∙◌}
use Rattle.std.proofs.lemmas.Result.{on_ok_weaker}
use Rattle.walk_state.specs.Moments.{moment}
use Rattle.walk_choices.proofs.Facts.{decided_false, decided_true}
use Rattle.walk_choices.proofs.conditions.condition.Goals as goal

pub returns-then-choice-eq1-clause-did : goal.returns-then-choice-eq1-clause-did
returns-then-choice-eq1-clause-did c =
    let w0 = c.args.walk.now in
    on_ok_weaker c.is_true.result
    (decided_true w0.pool c.args.card.now.setting.now c.args.card.now.number c.args.e.now c.args.choices.now (moment w0) (moment c.is_true.new.walk) (sym c.first_choice-choice.ensures ∙ c.if-choice-eq1.true)) c.is_true.ensures.did

pub returns-clause-did : goal.returns-clause-did
returns-clause-did c =
    let w0 = c.args.walk.now in
    on_ok_weaker c.is_false.result
    (decided_false w0.pool c.args.card.now.setting.now c.args.card.now.number c.args.e.now c.args.choices.now (moment w0) (moment c.is_false.new.walk) (λ e. c.if-choice-eq1.false (c.first_choice-choice.ensures ∙ e)))
    c.is_false.ensures.did
