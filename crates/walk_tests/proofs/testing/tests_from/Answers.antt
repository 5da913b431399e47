use Rattle.std.proofs.Common.{◌≡◌, ◌+◌, suc, Option, arith, get_or, refl, subst}
use Rattle.std.proofs.lemmas.Grind.{common_steps}
use Rattle.std.proofs.lemmas.Result.{on_ok_weaker}
use Rattle.walk_flow.specs.Loops.{IsNextTest}
use Rattle.walk_flow.specs.declared.loops.NextTest.{NextTest}
use Rattle.walk_state.proofs.Parts.{follows_then}
use Rattle.walk_tests.proofs.Turns.{at_card_left, at_card_round, is_one, is_other, left_behind, no_choice, no_test, round_again}
use Rattle.walk_tests.proofs.testing.tests_from.Goals as goal

pub returns-in_default-clause-did : goal.returns-in_default-clause-did
returns-in_default-clause-did c =
    let at = c.args.at.now in
    let s = at.flow.now.setting.now in
    let forks = at.flow.now.graph.now.forks in
    no_test s forks at.card c.args.choices.now c.args.walk.now at.target c.loop-choice.walk c.loop-choice.target c.loop-choice.choice-index c.loop-choice.invariant.left
    (λ q ds tests stand. subst (λ (o : Option NextTest). IsNextTest s.book.now.unit.now forks q ds o) c.in_default.is (c.next_test.ensures q ds tests stand))

pub returns-then-choice-eq1-clause-did : goal.returns-then-choice-eq1-clause-did
returns-then-choice-eq1-clause-did c =
    let at = c.args.at.now in
    let s = at.flow.now.setting.now in
    let forks = at.flow.now.graph.now.forks in
    on_ok_weaker c.go_round.result
    (λ h. round_again s forks at.card c.args.choices.now c.args.walk.now at.target c.loop-choice.walk c.loop-choice.target c.loop-choice.choice-index (get_or c.args.choices.now c.loop-choice.choice-index 0) c.in-Some.found c.go_round.new.walk
    c.loop-choice.invariant.left (λ q ds tests stand. subst (λ (o : Option NextTest). IsNextTest s.book.now.unit.now forks q ds o) c.in-Some.is (c.next_test.ensures q ds tests stand)) c.loop-choice-test.true
    refl (is_one (get_or c.args.choices.now c.loop-choice.choice-index 0) c.if-choice-eq1.true)
    (at_card_round c.loop-choice.walk c.go_round.new.walk c.at_card.result.setting.now s c.at_card.result.number at.card c.in-Some.found.test c.at_card.ensures.setting c.at_card.ensures.number h))
    c.go_round.ensures.did

pub loop-choice-preserved : goal.loop-choice-preserved
loop-choice-preserved c =
    let at = c.args.at.now in
    let s = at.flow.now.setting.now in
    let forks = at.flow.now.graph.now.forks in
    let card = c.at_card-in-loop-choice in
    let next : c.loop-choice.choice-index + 1 ≡ suc c.loop-choice.choice-index = omega arith in
    record {
      on = follows_then c.args.walk.now c.loop-choice.walk c.leave.new.walk c.loop-choice.invariant.on c.leave.ensures.on;
      left =
          left_behind s forks at.card c.args.choices.now c.args.walk.now at.target c.loop-choice.walk c.loop-choice.target c.loop-choice.choice-index (get_or c.args.choices.now c.loop-choice.choice-index 0) c.in-Some.found c.leave.new.walk
          (c.loop-choice.choice-index + 1) c.loop-choice.invariant.left (λ q ds tests stand. subst (λ (o : Option NextTest). IsNextTest s.book.now.unit.now forks q ds o) c.in-Some.is (c.next_test.ensures q ds tests stand))
          c.loop-choice-test.true refl (is_other (get_or c.args.choices.now c.loop-choice.choice-index 0) c.if-choice-eq1.false) c.leave.ensures.on.grows
          (at_card_left c.loop-choice.walk c.leave.new.walk card.result.setting.now s card.result.number at.card c.in-Some.found.test card.ensures.setting card.ensures.number c.in_ok-leave.ensures.did) next;
    }

pub returns-clause-did : goal.returns-clause-did
returns-clause-did c =
    let at = c.args.at.now in
    let s = at.flow.now.setting.now in
    let forks = at.flow.now.graph.now.forks in
    no_choice s forks at.card c.args.choices.now c.args.walk.now at.target c.loop-choice.walk c.loop-choice.target c.loop-choice.choice-index c.loop-choice.invariant.left (grind (arith, common_steps, c.loop-choice-test.false))
