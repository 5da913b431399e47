use Rattle.std.proofs.Common.{◌≡◌, ◌∙◌, List, length, Some, slice_get, refl, ap, sym, subst}
use Rattle.std.proofs.lemmas.Option.{slice_get_read}
use Rattle.run_shapes.specs.declared.unit_code.LineCode.{LineCode}
use Rattle.run_work.specs.Ways.{CanWork, SteppedOf}
use Rattle.run_work.proofs.Entering.{begun_so}
use Rattle.run_work.proofs.stepping.begin_line.Goals as goal

pub returns-in-Some-clause-steps : goal.returns-in-Some-clause-steps
returns-in-Some-clause-steps c =
    let p = c.args.p.now in
    let m = c.args.m.now in
    let ls = c.as_slice.result.now in
    let at : slice_get c.args.unit.now.lines m.frame.line ≡ Some c.in-Some.line.now
    = ap (λ (xs : List LineCode). slice_get xs m.frame.line) (sym c.as_slice.ensures) ∙ slice_get_read ls (length ls) m.frame.line c.in-Some.line.now refl c.in-Some.ensures.lookup.3.0 c.in-Some.ensures.lookup.1 in
    subst (SteppedOf p.units.now p.code.now p.setting.now m) (sym c.begin.ensures) (begun_so p m c.requires.can c.requires.between c.in-Some.line.now c.args.unit.now c.requires.coded at).0

pub returns-in-Some-clause-can : goal.returns-in-Some-clause-can
returns-in-Some-clause-can c =
    let p = c.args.p.now in
    let m = c.args.m.now in
    let ls = c.as_slice.result.now in
    let at : slice_get c.args.unit.now.lines m.frame.line ≡ Some c.in-Some.line.now
    = ap (λ (xs : List LineCode). slice_get xs m.frame.line) (sym c.as_slice.ensures) ∙ slice_get_read ls (length ls) m.frame.line c.in-Some.line.now refl c.in-Some.ensures.lookup.3.0 c.in-Some.ensures.lookup.1 in
    subst (CanWork p) (sym c.begin.ensures) (begun_so p m c.requires.can c.requires.between c.in-Some.line.now c.args.unit.now c.requires.coded at).1
