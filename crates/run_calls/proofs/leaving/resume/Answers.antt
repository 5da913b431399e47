use Rattle.std.proofs.Common.{◌<◌, length, subst, sym, ◌∙◌, []}
use Rattle.run_state.specs.Deeds.{newest_in, under_in}
use Rattle.run_state.specs.declared.machine.State.{State}
use Rattle.run_calls.specs.Calls.{copies_in}
use Rattle.run_calls.proofs.Closed.{back_closed}
use Rattle.run_calls.proofs.leaving.resume.Goals as goal

pub go_back-requires : goal.go_back-requires
go_back-requires c =
    let m = c.args.m.now in
    let f = c.args.frame in
    subst (λ (s : State). length (under_in f.actuals s.values.items) < s.values.room)
    (sym (c.restore.ensures ∙ back_closed (copies_in c.args.setting.now c.in-Some.caller.now f.number) 1 f.base (newest_in f.actuals m.values.items []) m)) c.requires
