use Rattle.std.proofs.Common.{◌<◌, ◌^◌, length, sym, subst, arith}
use Rattle.std.proofs.lemmas.Option.{slice_get_within}
use Rattle.run_shapes.specs.declared.tests.Test.TheVariants as tests
use Rattle.run_work.specs.Ways.{CanWork, SteppedOf}
use Rattle.run_work.proofs.Units.{its_code}
use Rattle.run_work.proofs.Entering.{tested_so}
use Rattle.run_work.proofs.stepping.test_round.Goals as goal

pub test-requires-clause-place_near : goal.test-requires-clause-place_near
test-requires-clause-place_near c =
    let a : c.args.m.now.frame.place < length c.args.unit.now.tests = slice_get_within c.args.unit.now.tests c.args.m.now.frame.place (tests.Loop c.args.round) c.requires.stands in
    let b : length c.args.unit.now.tests < 2 ^ 64 = c.tables_are_short.ensures.tests in
    omega arith

pub test-requires-clause-point_near : goal.test-requires-clause-point_near
test-requires-clause-point_near c =
    let a : c.args.round.at < length c.args.unit.now.lines
    = (its_code c.args.p.now.code.now c.args.p.now.units.now c.requires.can.coded c.args.m.now.frame.unit c.args.unit.now c.requires.coded).2.pointed c.args.m.now.frame.place c.args.round c.requires.stands in
    let b : length c.args.unit.now.lines < 2 ^ 64 = c.tables_are_short.ensures.lines in
    omega arith

pub returns-clause-steps : goal.returns-clause-steps
returns-clause-steps c =
    let p = c.args.p.now in
    subst (SteppedOf p.units.now p.code.now p.setting.now c.args.m.now) (sym c.test.ensures)
    (tested_so p c.args.m.now c.requires.can c.requires.testing c.args.unit.now c.requires.coded c.args.round c.requires.stands).0

pub returns-clause-can : goal.returns-clause-can
returns-clause-can c =
    let p = c.args.p.now in
    subst (CanWork p) (sym c.test.ensures)
    (tested_so p c.args.m.now c.requires.can c.requires.testing c.args.unit.now c.requires.coded c.args.round c.requires.stands).1
