use Rattle.std.proofs.Common.{◌≡◌, ◌∙◌, List, length, None, slice_get, refl, ap, sym, subst}
use Rattle.std.proofs.lemmas.Option.{slice_get_read, slice_get_past}
use Rattle.run_shapes.specs.declared.instr.Instr.{Instr}
use Rattle.run_shapes.specs.declared.unit_code.UnitCode.{UnitCode}
use Rattle.run_state.specs.Rests.{Works}
use Rattle.run_state.specs.Shows.{unit_code}
use Rattle.run_state.proofs.Pieces.{piece_done, piece_out}
use Rattle.run_work.specs.Ways.{CanWork, Stays}
use Rattle.run_work.proofs.Units.{unit_is}
use Rattle.run_work.proofs.Ended.{is_over}
use Rattle.run_work.proofs.acting.act_next.Goals as goal

pub returns-then-place-stop-clause-works : goal.returns-then-place-stop-clause-works
returns-then-place-stop-clause-works c =
    let m = c.args.m.now in
    let p = c.args.p.now in
    subst (Works p.code.now p.setting.now m) (sym c.go_to.ensures)
    (is_over p m c.requires.can c.requires.inside (piece_done m.frame.place m.frame.stop (unit_code p.code.now m.frame.unit).instrs c.if-place-stop.true)).0

pub returns-then-place-stop-clause-can : goal.returns-then-place-stop-clause-can
returns-then-place-stop-clause-can c =
    let m = c.args.m.now in
    let p = c.args.p.now in
    subst (CanWork p) (sym c.go_to.ensures)
    (is_over p m c.requires.can c.requires.inside (piece_done m.frame.place m.frame.stop (unit_code p.code.now m.frame.unit).instrs c.if-place-stop.true)).1

pub act-requires-clause-stands : goal.act-requires-clause-stands
act-requires-clause-stands c =
    let m = c.args.m.now in
    let is = c.as_slice.result.now in
    ap (λ (xs : List Instr). slice_get xs m.frame.place) (sym c.as_slice.ensures) ∙ slice_get_read is (length is) m.frame.place c.in-Some.instr.now refl c.in-Some.ensures.lookup.3.0 c.in-Some.ensures.lookup.1

pub returns-in-None-clause-works : goal.returns-in-None-clause-works
returns-in-None-clause-works c =
    let m = c.args.m.now in
    let p = c.args.p.now in
    let is = c.as_slice.result.now in
    let none : slice_get (unit_code p.code.now m.frame.unit).instrs m.frame.place ≡ None
    = ap (λ (u : UnitCode). slice_get u.instrs m.frame.place) (unit_is p.code.now m.frame.unit c.args.unit.now c.requires.coded) ∙ ap (λ (xs : List Instr). slice_get xs m.frame.place) (sym c.as_slice.ensures)
    ∙ slice_get_past is m.frame.place c.in-None.ensures.lookup.3 in
    subst (Works p.code.now p.setting.now m) (sym c.go_to-in-None.ensures)
    (is_over p m c.requires.can c.requires.inside (piece_out m.frame.place m.frame.stop (unit_code p.code.now m.frame.unit).instrs none)).0

pub returns-in-None-clause-can : goal.returns-in-None-clause-can
returns-in-None-clause-can c =
    let m = c.args.m.now in
    let p = c.args.p.now in
    let is = c.as_slice.result.now in
    let none : slice_get (unit_code p.code.now m.frame.unit).instrs m.frame.place ≡ None
    = ap (λ (u : UnitCode). slice_get u.instrs m.frame.place) (unit_is p.code.now m.frame.unit c.args.unit.now c.requires.coded) ∙ ap (λ (xs : List Instr). slice_get xs m.frame.place) (sym c.as_slice.ensures)
    ∙ slice_get_past is m.frame.place c.in-None.ensures.lookup.3 in
    subst (CanWork p) (sym c.go_to-in-None.ensures)
    (is_over p m c.requires.can c.requires.inside (piece_out m.frame.place m.frame.stop (unit_code p.code.now m.frame.unit).instrs none)).1

pub returns-then-place-stop-clause-stays : goal.returns-then-place-stop-clause-stays
returns-then-place-stop-clause-stays c = subst (Stays c.args.m.now) (sym c.go_to.ensures) (λ e. refl)

pub returns-in-None-clause-stays : goal.returns-in-None-clause-stays
returns-in-None-clause-stays c = subst (Stays c.args.m.now) (sym c.go_to-in-None.ensures) (λ e. refl)
