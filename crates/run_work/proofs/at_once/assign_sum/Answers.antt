use Rattle.std.proofs.Common.{rules, ◌≡◌, ◌+◌, ◌-◌, ◌≤◌, ◌<◌, ◌^◌, true, refl, sym, subst, arith}
use Rattle.run_work.specs.AtOnce.{MayAct}
use Rattle.run_work.proofs.Summed.{sum_assigned}
use Rattle.run_work.proofs.at_once.assign_sum.Goals as goal

pub returns : goal.returns
returns c =
    let p = c.args.p.now in
    let m = c.args.m.now in
    let k = m.frame.place in
    let near : m.frame.stop < 2 ^ 64 = search rules in
    let room : c.saturating_sub.result ≡ m.frame.stop - k = c.saturating_sub.ensures in
    let within : k + 5 ≤ m.frame.stop = grind arith in
    subst (MayAct true p m) (sym c.assign_at.ensures)
    (sum_assigned p m c.requires.can c.requires.inside near c.args.unit.now c.requires.coded c.in-Some.a.now c.in-Some-instr_at.b.now c.in-Some-instr_at-2.sign.now c.in-Some-instr_at-3.taken.now
    c.in-Some-instr_at-4.assigned.now k c.in-Some-slot_of.slot c.in-Some-sum.value refl within c.in-Some.ensures c.in-Some-instr_at.ensures c.in-Some-instr_at-2.ensures c.in-Some-instr_at-3.ensures
    c.in-Some-instr_at-4.ensures (sym c.in-Some-slot_of.ensures) (sym c.if-not-is_assignment.ensures) (sym c.in-Some-sum.ensures))
