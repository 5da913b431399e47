use Rattle.std.proofs.Common.{◌+◌, ◌-◌, None, Some, sym, ◌∙◌, rules, arith}
use Rattle.run_places.proofs.Subscripts.{all_dims, no_more_dims, next_at}
use Rattle.run_places.proofs.arrays.place.Goals as goal

pub returns-in_default : goal.returns-in_default
returns-in_default c =
    let m = c.args.m.now in
    let slots = c.args.slots.now in
    let at = c.loop-at.at in
    sym (no_more_dims m slots (c.args.count - at) (c.args.shape.first + at) (c.args.shape.rank - at) c.loop-at.place (sym c.amount.ensures ∙ c.in_default.is)) ∙ c.loop-at.invariant

pub returns-in_default-next : goal.returns-in_default-next
returns-in_default-next c =
    sym (next_at c.args.m.now c.args.slots.now c.args.count c.args.shape.first c.args.shape.rank c.loop-at.at c.loop-at.place c.in-Some.amount c.num-subscript.result c.dim.result None
    c.loop-at-test.true c.if-at-shape.true (sym c.amount.ensures ∙ c.in-Some.is) (search rules) (search rules) c.dim.ensures)
    ∙ c.loop-at.invariant

pub loop-at-preserved : goal.loop-at-preserved
loop-at-preserved c =
    sym (next_at c.args.m.now c.args.slots.now c.args.count c.args.shape.first c.args.shape.rank c.loop-at.at c.loop-at.place c.in-Some.amount c.num-subscript.result c.dim.result (Some c.in-Some-next.later)
    c.loop-at-test.true c.if-at-shape.true (sym c.amount.ensures ∙ c.in-Some.is) (search rules) (search rules) c.dim.ensures)
    ∙ c.loop-at.invariant

pub returns-else-at-shape : goal.returns-else-at-shape
returns-else-at-shape c =
    let past = c.if-at-shape.false in
    sym (all_dims c.args.m.now c.args.slots.now (c.args.count - c.loop-at.at) (c.args.shape.first + c.loop-at.at) (c.args.shape.rank - c.loop-at.at) c.loop-at.place (omega arith)) ∙ c.loop-at.invariant
