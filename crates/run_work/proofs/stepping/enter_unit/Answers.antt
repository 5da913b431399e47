use Rattle.std.proofs.Common.{◌∙◌, ◌+◌, ◌≤◌, List, length, sum, ap, sym, subst}
use Rattle.run_shapes.specs.declared.unit_code.UnitCode.{UnitCode}
use Rattle.run_calls.specs.Calls.{entered}
use Rattle.run_ranks.specs.Needs.{rank_at}
use Rattle.run_work.specs.Ways.{CanWork, SteppedOf}
use Rattle.run_work.proofs.Units.{unit_is}
use Rattle.run_work.proofs.Entering.{entered_so, room_to_enter}
use Rattle.run_work.proofs.stepping.enter_unit.Goals as goal

pub enter-requires-clause-extents : goal.enter-requires-clause-extents
enter-requires-clause-extents c =
    let p = c.args.p.now in
    let m = c.args.m.now in
    subst (λ (own : List _). length m.extents.items + length own + length c.as_slice.result.now ≤ m.extents.room) (sym c.own_sizes-sizes.ensures)
    (subst (λ (js : List _). length m.extents.items + length (rank_at p.ranks.now m.frame.unit).own + length js ≤ m.extents.room) (sym c.as_slice.ensures)
    (subst (λ (u : UnitCode). length m.extents.items + length (rank_at p.ranks.now m.frame.unit).own + length u.shared ≤ m.extents.room) (unit_is p.code.now m.frame.unit c.args.unit.now c.requires.coded)
    (room_to_enter p m c.requires.can c.requires.entering).extents))

pub enter-requires-clause-cells : goal.enter-requires-clause-cells
enter-requires-clause-cells c =
    let m = c.args.m.now in
    subst (λ (own : List _). length m.cells.items + sum own ≤ m.cells.room) (sym c.own_sizes-sizes.ensures) (room_to_enter c.args.p.now m c.requires.can c.requires.entering).cells

pub returns-clause-steps : goal.returns-clause-steps
returns-clause-steps c =
    let p = c.args.p.now in
    let m = c.args.m.now in
    let own = c.own_sizes-sizes.result.now in
    subst (SteppedOf p.units.now p.code.now p.setting.now m) (sym (c.enter.ensures ∙ ap (λ js. entered own js m) c.as_slice.ensures))
    (entered_so p m c.requires.can c.requires.entering own c.args.unit.now (sym c.own_sizes-sizes.ensures) c.requires.coded).0

pub returns-clause-can : goal.returns-clause-can
returns-clause-can c =
    let p = c.args.p.now in
    let m = c.args.m.now in
    let own = c.own_sizes-sizes.result.now in
    subst (CanWork p) (sym (c.enter.ensures ∙ ap (λ js. entered own js m) c.as_slice.ensures))
    (entered_so p m c.requires.can c.requires.entering own c.args.unit.now (sym c.own_sizes-sizes.ensures) c.requires.coded).1
