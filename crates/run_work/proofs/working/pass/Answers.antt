use Rattle.std.proofs.Common.{◌≡◌, ◌∙◌, List, length, None, Some, slice_get, refl, ap, sym, subst}
use Rattle.std.proofs.lemmas.Option.{slice_get_read, slice_get_past}
use Rattle.run_shapes.specs.declared.tests.Test.{Test}
use Rattle.run_state.specs.Rests.{Works, is_test}
use Rattle.run_work.specs.Ways.{CanWork}
use Rattle.run_work.proofs.Ended.{passes_none, passes_out, waits_testing}
use Rattle.run_work.proofs.working.pass.Goals as goal

pub returns-in-None-clause-work : goal.returns-in-None-clause-work
returns-in-None-clause-work c =
    let p = c.args.p.now in
    let m = c.args.m.now in
    let none : slice_get c.args.unit.now.tests m.frame.place ≡ None
    = ap (λ (xs : List Test). slice_get xs m.frame.place) (sym c.as_slice.ensures) ∙ slice_get_past c.as_slice.result.now m.frame.place c.in-None.ensures.lookup.3 in
    subst (Works p.code.now p.setting.now m) (sym c.go_to.ensures) (passes_none p m c.requires.can c.requires.testing c.args.unit.now c.requires.coded none).0

pub returns-in-None-clause-can : goal.returns-in-None-clause-can
returns-in-None-clause-can c =
    let p = c.args.p.now in
    let m = c.args.m.now in
    let none : slice_get c.args.unit.now.tests m.frame.place ≡ None
    = ap (λ (xs : List Test). slice_get xs m.frame.place) (sym c.as_slice.ensures) ∙ slice_get_past c.as_slice.result.now m.frame.place c.in-None.ensures.lookup.3 in
    subst (CanWork p) (sym c.go_to.ensures) (passes_none p m c.requires.can c.requires.testing c.args.unit.now c.requires.coded none).1

pub returns-in-Loop-clause-work : goal.returns-in-Loop-clause-work
returns-in-Loop-clause-work c =
    let m = c.args.m.now in
    let ts = c.as_slice.result.now in
    let at : slice_get c.args.unit.now.tests m.frame.place ≡ Some c.in-Some.test.now
    = ap (λ (xs : List Test). slice_get xs m.frame.place) (sym c.as_slice.ensures) ∙ slice_get_read ts (length ts) m.frame.place c.in-Some.test.now refl c.in-Some.ensures.lookup.3.0 c.in-Some.ensures.lookup.1 in
    (refl, waits_testing c.args.p.now m c.requires.can c.requires.testing c.args.unit.now c.requires.coded (ap is_test (at ∙ ap Some c.in-Loop.is)))

pub returns-in-Out-clause-work : goal.returns-in-Out-clause-work
returns-in-Out-clause-work c =
    let p = c.args.p.now in
    let m = c.args.m.now in
    let ts = c.as_slice.result.now in
    let at : slice_get c.args.unit.now.tests m.frame.place ≡ Some c.in-Some.test.now
    = ap (λ (xs : List Test). slice_get xs m.frame.place) (sym c.as_slice.ensures) ∙ slice_get_read ts (length ts) m.frame.place c.in-Some.test.now refl c.in-Some.ensures.lookup.3.0 c.in-Some.ensures.lookup.1 in
    subst (Works p.code.now p.setting.now m) (sym c.go_to-in-Out.ensures) (passes_out p m c.requires.can c.requires.testing c.args.unit.now c.requires.coded c.in-Out.point (at ∙ ap Some c.in-Out.is)).0

pub returns-in-Out-clause-can : goal.returns-in-Out-clause-can
returns-in-Out-clause-can c =
    let p = c.args.p.now in
    let m = c.args.m.now in
    let ts = c.as_slice.result.now in
    let at : slice_get c.args.unit.now.tests m.frame.place ≡ Some c.in-Some.test.now
    = ap (λ (xs : List Test). slice_get xs m.frame.place) (sym c.as_slice.ensures) ∙ slice_get_read ts (length ts) m.frame.place c.in-Some.test.now refl c.in-Some.ensures.lookup.3.0 c.in-Some.ensures.lookup.1 in
    subst (CanWork p) (sym c.go_to-in-Out.ensures) (passes_out p m c.requires.can c.requires.testing c.args.unit.now c.requires.coded c.in-Out.point (at ∙ ap Some c.in-Out.is)).1
