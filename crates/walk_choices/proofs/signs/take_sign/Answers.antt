use Rattle.std.proofs.Common.{sym, ◌∙◌}
use Rattle.std.proofs.lemmas.Result.{on_ok_weaker}
use Rattle.formula.specs.Pool.{tree_of}
use Rattle.walk_state.specs.Moments.{moment}
use Rattle.walk_choices.proofs.Facts.{takes_above, takes_below, takes_zero}
use Rattle.walk_choices.proofs.signs.take_sign.Goals as goal

pub returns-then-choice-eq1-clause-did : goal.returns-then-choice-eq1-clause-did
returns-then-choice-eq1-clause-did c =
    let w0 = c.args.walk.now in
    on_ok_weaker c.below_zero.result
    (takes_below (moment w0) (moment c.below_zero.new.walk) (tree_of w0.pool c.args.number) c.args.choices.now (sym c.first_choice-choice.ensures ∙ c.if-choice-eq1.true)) c.below_zero.ensures.did

pub returns-then-choice-eq2-clause-did : goal.returns-then-choice-eq2-clause-did
returns-then-choice-eq2-clause-did c =
    let w0 = c.args.walk.now in
    on_ok_weaker c.take_equals.result
    (takes_zero (moment w0) (moment c.take_equals.new.walk) (tree_of w0.pool c.args.number) c.args.choices.now (sym c.first_choice-choice.ensures ∙ c.if-choice-eq2.true)) c.take_equals.ensures.did

pub returns-clause-did : goal.returns-clause-did
returns-clause-did c =
    let w0 = c.args.walk.now in
    on_ok_weaker c.above_zero.result
    (takes_above (moment w0) (moment c.above_zero.new.walk) (tree_of w0.pool c.args.number) c.args.choices.now (λ e. c.if-choice-eq1.false (c.first_choice-choice.ensures ∙ e)) (λ e. c.if-choice-eq2.false (c.first_choice-choice.ensures ∙ e)))
    c.above_zero.ensures.did
