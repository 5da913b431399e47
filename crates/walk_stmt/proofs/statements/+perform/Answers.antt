use Rattle.std.proofs.Common.{◌≡◌, ℕ, ◌-◌, List, [], ◌∷◌, None, drop, get_or, length, take, arith, rules, refl, sym, ap, ◌∙◌, subst}
use Rattle.std.proofs.lemmas.Result.{on_ok_weaker}
use Rattle.fort_model.specs.WalkStmt as forms
use Rattle.fort_syntax.specs.declared.expr.Expr.{Expr}
use Rattle.fort_syntax.specs.declared.stmt.Stmt.{Stmt}
use Rattle.fort_syntax.specs.declared.stmt.Stmt.TheVariants.{Assign, Computed, ArithIf, Do, Call, Return}
use Rattle.fort_syntax.specs.declared.stmt.Stmt.TheViews as stmt
use Rattle.walk_choices.specs.Choices as choices_of
use Rattle.walk_setting.specs.Settings.{PerformsIn}
use Rattle.walk_setting.proofs.Ready.{ready_on}
use Rattle.walk_state.specs.Moments.{moment}
use Rattle.walk_stmt.specs.Parts as parts
use Rattle.walk_stmt.proofs.Parts.{as_chosen, as_told, carried_on, decided_as, first_rest, is_one, is_other, no_item, passed_by, passed_not}
use Rattle.walk_stmt.proofs.Stands.{behind_to, does_at, if_goes, performs_at, performs_to, ready_to, smaller_as, target_as, target_to, turn_is, turn_there}
use Rattle.walk_stmt.proofs.statements.+perform.Goals as goal

pub perform-returns-in-Assign-clause-did : goal.perform-returns-in-Assign-clause-did
perform-returns-in-Assign-clause-did t c =
    let at = c.args.at.now in
    let w0 = c.args.walk.now in
    let w1 = c.perform_assignment.new.walk in
    on_ok_weaker c.perform_assignment.result
    (as_told w0.pool at.flow.now.setting.now at.card at.point c.args.choices.now (moment w0) (moment w1) (Assign c.in-Assign.left c.in-Assign.right) c.args.stmt.now c.in-Assign.is)
    c.perform_assignment.ensures.did

pub perform-returns-in-Computed-clause-did : goal.perform-returns-in-Computed-clause-did
perform-returns-in-Computed-clause-did t c =
    let at = c.args.at.now in
    let s = at.flow.now.setting.now in
    let w0 = c.args.walk.now in
    let w1 = c.select.new.walk in
    on_ok_weaker c.select.result
    (λ d. as_told w0.pool s at.card at.point c.args.choices.now (moment w0) (moment w1) (Computed c.in-Computed.labels c.in-Computed.x) c.args.stmt.now c.in-Computed.is
    (subst (λ (ls : List ℕ). PerformsIn w0.pool s (moment w0) (λ w. choices_of.selected w at.card (moment w0).now at.point c.in-Computed.x (length ls) c.args.choices.now) (moment w1)) c.as_slice.ensures d))
    c.select.ensures.did

pub perform-returns-in-ArithIf-clause-did : goal.perform-returns-in-ArithIf-clause-did
perform-returns-in-ArithIf-clause-did t c =
    let at = c.args.at.now in
    let s = at.flow.now.setting.now in
    let w0 = c.args.walk.now in
    let w1 = c.sign.new.walk in
    on_ok_weaker c.sign.result
    (λ d. as_told w0.pool s at.card at.point c.args.choices.now (moment w0) (moment w1) (ArithIf c.in-ArithIf.e c.in-ArithIf.field-1 c.in-ArithIf.field-2 c.in-ArithIf.field-3) c.args.stmt.now c.in-ArithIf.is
    (performs_at w0.pool (moment w0) (moment w1) (λ k w. choices_of.signed w k (moment w0).now c.in-ArithIf.e c.args.choices.now) c.at_card.result.setting.now s c.at_card.result.number at.card c.at_card.ensures.setting c.at_card.ensures.number d))
    c.sign.ensures.did

pub perform-returns-in-Do-clause-did : goal.perform-returns-in-Do-clause-did
perform-returns-in-Do-clause-did t c =
    let at = c.args.at.now in
    let w0 = c.args.walk.now in
    let w1 = c.begin_do.new.walk in
    on_ok_weaker c.begin_do.result
    (as_told w0.pool at.flow.now.setting.now at.card at.point c.args.choices.now (moment w0) (moment w1) (Do c.in-Do.label c.in-Do.variable c.in-Do.first c.in-Do.last c.in-Do.step) c.args.stmt.now c.in-Do.is)
    c.begin_do.ensures.did

pub perform-returns-in-Call-clause-did : goal.perform-returns-in-Call-clause-did
perform-returns-in-Call-clause-did t c =
    let at = c.args.at.now in
    let s = at.flow.now.setting.now in
    let w0 = c.args.walk.now in
    let w1 = c.perform_call.new.walk in
    on_ok_weaker c.perform_call.result
    (λ d. as_told w0.pool s at.card at.point c.args.choices.now (moment w0) (moment w1) (Call c.in-Call.called c.in-Call.args) c.args.stmt.now c.in-Call.is
    (subst (λ (es : List Expr). PerformsIn w0.pool s (moment w0) (λ w. parts.of_call w at.card at.point (moment w0).now c.in-Call.called es c.args.choices.now) (moment w1)) c.as_slice-in-Call.ensures d))
    c.perform_call.ensures.did

pub perform-returns-in-Return-clause-did : goal.perform-returns-in-Return-clause-did
perform-returns-in-Return-clause-did t c =
    let at = c.args.at.now in
    let w0 = c.args.walk.now in
    let w1 = c.perform_return.new.walk in
    on_ok_weaker c.perform_return.result
    (as_told w0.pool at.flow.now.setting.now at.card at.point c.args.choices.now (moment w0) (moment w1) Return c.args.stmt.now c.in-Return.is)
    c.perform_return.ensures.did

pub perform-returns-in-BlockIf-clause-did : goal.perform-returns-in-BlockIf-clause-did
perform-returns-in-BlockIf-clause-did t c =
    let at = c.args.at.now in
    let s = at.flow.now.setting.now in
    let w0 = c.args.walk.now in
    let w1 = c.condition.new.walk in
    let card = c.at_card-in-BlockIf in
    on_ok_weaker c.condition.result
    (λ d. decided_as w0.pool s at.card at.point c.args.choices.now (moment w0) (moment w1) c.in-BlockIf.e c.args.stmt.now c.in-BlockIf.is
    (performs_at w0.pool (moment w0) (moment w1) (λ k w. choices_of.decided w k (moment w0).now c.in-BlockIf.e c.args.choices.now) card.result.setting.now s card.result.number at.card card.ensures.setting card.ensures.number d))
    c.condition.ensures.did

pub perform-perform_logical-requires : goal.perform-perform_logical-requires
perform-perform_logical-requires t c =
    let flow = c.args.at.now.flow.now in
    let target = target_as flow.setting.now.scene.now.dialect flow.setting.now.book.now.unit.now flow.graph.now.forks c.args.at.now.point c.args.stmt.now (stmt.LogicalIf c.in-LogicalIf.e c.get.result.now) c.args.at.now.target
    (c.in-LogicalIf.is ∙ sym (ap (λ (x : Stmt). stmt.LogicalIf c.in-LogicalIf.e x) c.get.ensures)) c.requires.target in
    let smaller = smaller_as c.in-LogicalIf.e c.in-LogicalIf.carried c.args.stmt.now c.get.result.now c.in-LogicalIf.is c.get.ensures in
    (omega (arith, c.decreases, smaller), (c.requires.well, (c.requires.ready, target)))

pub perform_logical-returns-in_default-clause-did : goal.perform_logical-returns-in_default-clause-did
perform_logical-returns-in_default-clause-did t c =
    let at = c.args.at.now in
    let s = at.flow.now.setting.now in
    let w0 = c.args.walk.now in
    let cs = c.args.choices.now in
    as_chosen w0.pool s at.card at.point cs (moment w0) (moment w0) [] cs (stmt.LogicalIf c.args.e.now c.args.carried.now) (no_item cs c.in_default.len_below)
    (passed_not w0.pool s at.card at.point cs (moment w0) (moment w0) c.args.e.now c.args.carried.now refl)

pub perform_logical-returns-in_default-turn-clause-did : goal.perform_logical-returns-in_default-turn-clause-did
perform_logical-returns-in_default-turn-clause-did t c =
    let at = c.args.at.now in
    let flow = at.flow.now in
    let r = if_goes flow.setting.now.scene.now.dialect flow.setting.now.book.now.unit.now flow.graph.now.forks at.point c.args.e.now c.args.carried.now at.target c.requires.target in
    absurd (turn_there c.turn.result r.on (c.turn.ensures None (r.then ∷ r.on ∷ []) r.fork) c.in_default-turn.is)

pub perform_logical-pass_carried-requires-clause-target : goal.perform_logical-pass_carried-requires-clause-target
perform_logical-pass_carried-requires-clause-target t c =
    let at = c.args.at.now in
    let flow = at.flow.now in
    let to = c.to.result in
    let r = if_goes flow.setting.now.scene.now.dialect flow.setting.now.book.now.unit.now flow.graph.now.forks at.point c.args.e.now c.args.carried.now at.target c.requires.target in
    behind_to to.flow.now flow c.to.ensures.flow to.point at.point to.target r.on c.to.ensures.point
    (c.to.ensures.target ∙ turn_is c.turn.result c.in-Some.on r.on (c.turn.ensures None (r.then ∷ r.on ∷ []) r.fork) c.in-Some.is) r.passed

pub perform_logical-returns-then-choice-ne1-clause-did : goal.perform_logical-returns-then-choice-ne1-clause-did
perform_logical-returns-then-choice-ne1-clause-did t c =
    let at = c.args.at.now in
    let s = at.flow.now.setting.now in
    let to = c.to.result in
    let w0 = c.args.walk.now in
    let w1 = c.pass_carried.new.walk in
    let cs = c.args.choices.now in
    let first = get_or cs 0 0 in
    let more = take (length cs - 1) (drop 1 cs) in
    on_ok_weaker c.pass_carried.result
    (λ d. as_chosen w0.pool s at.card at.point cs (moment w0) (moment w1) (first ∷ more) cs (stmt.LogicalIf c.args.e.now c.args.carried.now) (first_rest cs c.in-len1-up.len_at_least)
    (passed_by w0.pool s at.card at.point more (moment w0) (moment w1) c.args.e.now c.args.carried.now first (is_other first (λ e. omega (arith, e, c.if-choice-ne1.true)))
    (performs_to to.flow.now at.flow.now c.to.ensures.flow w0.pool (moment w0) (moment w1) (λ k q w. parts.of_passed w k q (moment w0).now c.args.e.now more) to.card at.card to.point at.point c.to.ensures.card c.to.ensures.point d)))
    c.pass_carried.ensures.did

pub perform_logical-returns-in_default-turn-2-clause-did : goal.perform_logical-returns-in_default-turn-2-clause-did
perform_logical-returns-in_default-turn-2-clause-did t c =
    let at = c.args.at.now in
    let flow = at.flow.now in
    let r = if_goes flow.setting.now.scene.now.dialect flow.setting.now.book.now.unit.now flow.graph.now.forks at.point c.args.e.now c.args.carried.now at.target c.requires.target in
    absurd (turn_there c.turn-2.result r.then (c.turn-2.ensures None (r.then ∷ r.on ∷ []) r.fork) c.in_default-turn-2.is)

pub perform_logical-perform-requires : goal.perform_logical-perform-requires
perform_logical-perform-requires t c =
    let at = c.args.at.now in
    let flow = at.flow.now in
    let to = c.to-2.result in
    let w0 = c.args.walk.now in
    let w1 = c.is_true.new.walk in
    let r = if_goes flow.setting.now.scene.now.dialect flow.setting.now.book.now.unit.now flow.graph.now.forks at.point c.args.e.now c.args.carried.now at.target c.requires.target in
    let ready = ready_to to.flow.now flow c.to-2.ensures.flow w1.pool (ready_on w0.pool w1.pool flow.setting.now.scene.now c.is_true.ensures.on.grows c.requires.ready) in
    let target = target_to to.flow.now flow c.to-2.ensures.flow to.point at.point c.args.carried.now to.target r.then c.to-2.ensures.point
    (c.to-2.ensures.target ∙ turn_is c.turn-2.result c.in-Some-turn.then r.then (c.turn-2.ensures None (r.then ∷ r.on ∷ []) r.fork) c.in-Some-turn.is) r.carried in
    (search rules, (c.is_true.ensures.on.kept, (ready, target)))

pub perform_logical-returns-clause-did : goal.perform_logical-returns-clause-did
perform_logical-returns-clause-did t c =
    let at = c.args.at.now in
    let s = at.flow.now.setting.now in
    let card = c.at_card in
    let to = c.to-2.result in
    let w0 = c.args.walk.now in
    let w1 = c.is_true.new.walk in
    let w2 = c.perform.new.walk in
    let cs = c.args.choices.now in
    let first = get_or cs 0 0 in
    let more = take (length cs - 1) (drop 1 cs) in
    let one : first ≡ 1 = omega (arith, c.if-choice-ne1.false) in
    on_ok_weaker c.perform.result
    (λ d. as_chosen w0.pool s at.card at.point cs (moment w0) (moment w2) (first ∷ more) cs (stmt.LogicalIf c.args.e.now c.args.carried.now) (first_rest cs c.in-len1-up.len_at_least)
    (carried_on s at.card at.point more w0 w1 w2 c.args.e.now c.is_true.ensures.on.grows first c.args.carried.now (is_one first one)
    (does_at w0.pool (moment w0) (moment w1) (λ k w. choices_of.is_true w k (moment w0).now c.args.e.now) tt card.result.setting.now s card.result.number at.card card.ensures.setting card.ensures.number c.in_ok-is_true.ensures.did)
    (performs_to to.flow.now at.flow.now c.to-2.ensures.flow w1.pool (moment w1) (moment w2) (λ k q w. forms.performed w k q (moment w1).now c.args.carried.now more) to.card at.card to.point at.point c.to-2.ensures.card c.to-2.ensures.point d)))
    c.perform.ensures.did
