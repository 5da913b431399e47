use Rattle.std.proofs.Common.{◌≡◌, ◌∙◌, List, length, None, Some, slice_get, refl, ap, sym, subst}
use Rattle.std.specs.Prelude.{is_some}
use Rattle.std.proofs.lemmas.Option.{slice_get_read, slice_get_past}
use Rattle.run_shapes.specs.declared.unit_code.LineCode.{LineCode}
use Rattle.run_state.specs.Rests.{Works}
use Rattle.run_work.specs.Ways.{CanWork}
use Rattle.run_work.proofs.Ended.{is_left, room_to_leave, waits_between}
use Rattle.run_work.proofs.working.end.Goals as goal

pub leave-requires : goal.leave-requires
leave-requires c = (room_to_leave c.args.p.now c.args.m.now c.requires.can c.requires.between).value

pub returns-in-Some-clause-work : goal.returns-in-Some-clause-work
returns-in-Some-clause-work c =
    let m = c.args.m.now in
    let ls = c.as_slice.result.now in
    let at : slice_get c.args.unit.now.lines m.frame.line ≡ Some c.in-Some.field-0.now
    = ap (λ (xs : List LineCode). slice_get xs m.frame.line) (sym c.as_slice.ensures) ∙ slice_get_read ls (length ls) m.frame.line c.in-Some.field-0.now refl c.in-Some.ensures.lookup.3.0 c.in-Some.ensures.lookup.1 in
    (refl, waits_between c.args.p.now m c.requires.can c.requires.between c.args.unit.now c.requires.coded (ap is_some at))

pub returns-in-None-clause-work : goal.returns-in-None-clause-work
returns-in-None-clause-work c =
    let p = c.args.p.now in
    let m = c.args.m.now in
    let none : slice_get c.args.unit.now.lines m.frame.line ≡ None
    = ap (λ (xs : List LineCode). slice_get xs m.frame.line) (sym c.as_slice.ensures) ∙ slice_get_past c.as_slice.result.now m.frame.line c.in-None.ensures.lookup.3 in
    subst (Works p.code.now p.setting.now m) (sym c.leave.ensures) (is_left p m c.requires.can c.requires.between c.args.unit.now c.requires.coded none).0

pub returns-in-None-clause-can : goal.returns-in-None-clause-can
returns-in-None-clause-can c =
    let p = c.args.p.now in
    let m = c.args.m.now in
    let none : slice_get c.args.unit.now.lines m.frame.line ≡ None
    = ap (λ (xs : List LineCode). slice_get xs m.frame.line) (sym c.as_slice.ensures) ∙ slice_get_past c.as_slice.result.now m.frame.line c.in-None.ensures.lookup.3 in
    subst (CanWork p) (sym c.leave.ensures) (is_left p m c.requires.can c.requires.between c.args.unit.now c.requires.coded none).1
