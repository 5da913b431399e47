use Rattle.std.proofs.Common.{◌<◌, ◌∷◌, [], length, subst, sym, ap, ◌∙◌, arith}
use Rattle.run_rooms.specs.Roomy.{Roomy}
use Rattle.run_state.specs.Deeds.{newest_in}
use Rattle.run_state.specs.Settings.{copies_by}
use Rattle.run_state.specs.declared.machine.Frame.{Frame}
use Rattle.run_state.specs.declared.machine.Stage.TheVariants as stage
use Rattle.run_state.specs.declared.machine.State.{State}
use Rattle.run_calls.specs.Calls.{new_frame, put_off, waiting}
use Rattle.run_calls.proofs.Closed.{handed_closed}
use Rattle.run_calls.proofs.passing.call.Goals as goal

pub push-requires : goal.push-requires
push-requires c =
    let m = c.args.m.now in
    let copies = copies_by c.args.setting.now.passing c.args.unit.now c.args.call.number in
    subst (λ (s : State). length s.callers.items < s.callers.room)
    (sym (c.hand_all.ensures ∙ handed_closed copies 1 (length m.cells.items) (newest_in c.args.call.actuals m.values.items []) m (omega arith))) c.requires.frames

pub returns : goal.returns
returns c =
    let m = c.args.m.now in
    let k = c.args.call.number in
    let n = c.args.call.actuals in
    ap (λ (cs : Roomy Frame). record c.hand_all.new.m { stage = stage.Entering; frame = new_frame c.args.callee c.len-first.result; callers = cs }) c.push.ensures
    ∙ ap
    (λ base.
    record c.hand_all.new.m {
      stage = stage.Entering;
      frame = new_frame c.args.callee c.len-first.result;
      callers = record c.hand_all.new.m.callers { items = waiting m.frame k n base ∷ c.hand_all.new.m.callers.items };
    })
    c.len-base.ensures
    ∙ ap
    (λ first.
    record c.hand_all.new.m {
      stage = stage.Entering;
      frame = new_frame c.args.callee first;
      callers = record c.hand_all.new.m.callers { items = waiting m.frame k n (length m.cells.items) ∷ c.hand_all.new.m.callers.items };
    })
    c.len-first.ensures
    ∙ ap (put_off k n c.args.callee m) c.hand_all.ensures
