use Rattle.std.proofs.Common.{◌≡◌, ◌≢◌, ◌<◌, ◌∷◌, [], slice_get, length, subst, sym, ap, ◌∙◌}
use Rattle.run_rooms.specs.Roomy.{Roomy}
use Rattle.run_state.specs.Deeds.{under_in}
use Rattle.run_state.specs.declared.machine.Frame.{Frame}
use Rattle.run_state.specs.declared.machine.State.{State}
use Rattle.run_calls.specs.Calls.{returned, value_at}
use Rattle.run_calls.proofs.Closed.{room_back, left_some}
use Rattle.run_calls.proofs.leaving.leave.Goals as goal

pub resume-requires : goal.resume-requires
resume-requires c =
    let m = c.args.m.now in
    let e = ap (λ (s : State). s.callers) (sym c.clear.ensures) ∙ c.in-Some.ensures in
    let some : m.callers.items ≢ [] = λ none. let two : c.in-Some.frame ∷ c.pop.new.self.items ≡ [] = sym (ap (λ (s : Roomy Frame). s.items) e) ∙ none in absurd (cc) in
    subst (λ (s : State). length (under_in c.in-Some.frame.actuals s.values.items) < s.values.room) (sym c.clear.ensures) (room_back m c.in-Some.frame.actuals (c.requires some))

pub returns-in-Some : goal.returns-in-Some
returns-in-Some c =
    let m = c.args.m.now in
    let e = ap (λ (s : State). s.callers) (sym c.clear.ensures) ∙ c.in-Some.ensures in
    c.resume.ensures
    ∙ ap (λ v. returned c.args.setting.now (slice_get c.args.code.now.units c.in-Some.frame.unit) c.in-Some.frame v (record c.clear.new.m { callers = c.pop.new.self })) c.value-value.ensures
    ∙ ap (λ (s : State). returned c.args.setting.now (slice_get c.args.code.now.units c.in-Some.frame.unit) c.in-Some.frame (value_at c.args.unit.now m) (record s { callers = c.pop.new.self })) c.clear.ensures
    ∙ sym (left_some c.args.code.now c.args.setting.now c.args.unit.now m c.in-Some.frame c.pop.new.self e)
