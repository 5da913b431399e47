use Rattle.std.proofs.lemmas.Result.{on_ok_weaker}
use Rattle.formula.specs.Pool.{tree_of}
use Rattle.fort_model.specs.Senses.{negated, of_terms}
use Rattle.fort_model.specs.WalkExpr.{value}
use Rattle.fort_model.specs.WalkStmt.{taken}
use Rattle.walk_setting.proofs.Done.{does_here, does_then}
use Rattle.walk_state.specs.Moments.{moment}
use Rattle.walk_choices.proofs.conditions.is_false.Goals as goal

pub returns-clause-did : goal.returns-clause-did
returns-clause-did c =
    let s = c.args.card.now.setting.now in
    let card = c.args.card.now.number in
    let e = c.args.e.now in
    let w0 = c.args.walk.now in
    let w1 = c.value.new.walk in
    let w2 = c.take_not.new.walk in
    let t = tree_of w1.pool c.in_ok-truth.truth in
    on_ok_weaker c.take_not.result
    (λ d. does_then s w0 w1 w2 (λ w. value w card (moment w0).now e) (λ w now v. taken w (negated w.sense v)) t tt c.value.ensures.on.grows c.in_ok-truth.ensures.did
    (does_here w1.pool s (moment w1) (moment w2) (λ w. taken w (negated of_terms t)) tt d))
    c.take_not.ensures.did
