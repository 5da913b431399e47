use Rattle.std.proofs.Common.{◌∙◌, ap, sym, subst, slice_get, IfSome}
use Rattle.run_shapes.specs.declared.unit_code.UnitCode.{UnitCode}
use Rattle.run_calls.specs.Calls.{IsReadyFor}
use Rattle.run_ranks.proofs.Calling.{ready}
use Rattle.run_state.specs.Deeds.{advanced}
use Rattle.run_state.specs.Rests.{Works}
use Rattle.run_work.specs.Obeying.{obeyed}
use Rattle.run_work.specs.Ways.{CanWork, Stays}
use Rattle.run_work.proofs.Units.{unit_is}
use Rattle.run_work.proofs.Obeyed.{does_its_work}
use Rattle.run_work.proofs.acting.act.Goals as goal

pub obey-requires-clause-calls : goal.obey-requires-clause-calls
obey-requires-clause-calls c place =
    let p = c.args.p.now in
    let m = c.args.m.now in
    let can = c.requires.can in
    subst (λ s. IfSome (slice_get c.args.unit.now.calls place) (IsReadyFor s)) (sym c.advance.ensures)
    (subst (λ (u : UnitCode). IfSome (slice_get u.calls place) (IsReadyFor (advanced m))) (unit_is p.code.now m.frame.unit c.args.unit.now c.requires.coded)
    (ready p.code.now p.ranks.now can.most place m (record { ranked = can.ranked; room = can.room }) c.requires.inside c.requires.within))

pub returns-clause-works : goal.returns-clause-works
returns-clause-works c =
    subst (Works c.args.p.now.code.now c.args.p.now.setting.now c.args.m.now) (sym (c.obey.ensures ∙ ap (obeyed c.args.p.now c.args.unit.now c.args.instr.now) c.advance.ensures))
    (does_its_work c.args.p.now c.args.m.now c.requires.can c.requires.inside c.requires.within c.requires.near c.args.instr.now c.args.unit.now c.requires.coded c.requires.stands).0.0

pub returns-clause-can : goal.returns-clause-can
returns-clause-can c =
    subst (CanWork c.args.p.now) (sym (c.obey.ensures ∙ ap (obeyed c.args.p.now c.args.unit.now c.args.instr.now) c.advance.ensures))
    (does_its_work c.args.p.now c.args.m.now c.requires.can c.requires.inside c.requires.within c.requires.near c.args.instr.now c.args.unit.now c.requires.coded c.requires.stands).0.1

pub returns-clause-stays : goal.returns-clause-stays
returns-clause-stays c =
    subst (Stays c.args.m.now) (sym (c.obey.ensures ∙ ap (obeyed c.args.p.now c.args.unit.now c.args.instr.now) c.advance.ensures))
    (does_its_work c.args.p.now c.args.m.now c.requires.can c.requires.inside c.requires.within c.requires.near c.args.instr.now c.args.unit.now c.requires.coded c.requires.stands).1
