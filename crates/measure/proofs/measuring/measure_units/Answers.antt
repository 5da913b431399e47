use Rattle.std.proofs.Common.{◌≡◌, Err, refl, ◌+◌, ◌<◌, ◌≤◌, suc, length, ap, arith}
use Rattle.fort_syntax.specs.declared.refusal.Refusal.TheVariants.{Broken}
use Rattle.measure.specs.Sizes.{sizes_of}
use Rattle.measure.proofs.Judged.{few_so_far, number_within, so_far_broken, so_far_counts, so_far_first, so_far_last, so_far_next}
use Rattle.measure.proofs.measuring.measure_units.Goals as goal

pub loop-number-init : goal.loop-number-init
loop-number-init c p ready = so_far_first p

pub measure_unit-requires-clause-within : goal.measure_unit-requires-clause-within
measure_unit-requires-clause-within c =
    let p = c.requires.ready.0 in
    let ready = c.requires.ready.1 in
    let less : c.loop-number.number < length c.args.graphs.now = omega arith in
    number_within c.args.whole.now.pool.now c.args.whole.now.scene.now p c.args.graphs.now c.loop-number.number ready.is_scene (c.requires.graphs p ready) less

pub measure_unit-requires-clause-few : goal.measure_unit-requires-clause-few
measure_unit-requires-clause-few c =
    let p = c.requires.ready.0 in
    few_so_far p c.loop-number.number (sizes_of c.loop-number.totals) (c.loop-number.invariant p c.requires.ready.1)

pub returns-in-Err-clause-broken : goal.returns-in-Err-clause-broken
returns-in-Err-clause-broken c f e p ready =
    let same : c.in-Err.refusal ≡ Broken f = cc in
    let less : c.loop-number.number < length c.args.graphs.now = omega arith in
    so_far_broken c.args.whole.now.pool.now c.args.whole.now.scene.now p ready.is_scene c.args.graphs.now (c.requires.graphs p ready) c.loop-number.number (sizes_of c.loop-number.totals) (c.loop-number.invariant p ready)
    c.index-graphs-number.result c.index-graphs-number.result less c.index-graphs-number.is f (c.in-Err.ensures.broken f (ap Err same))

pub loop-number-preserved : goal.loop-number-preserved
loop-number-preserved c p ready =
    let less : c.loop-number.number < length c.args.graphs.now = omega arith in
    let next : c.loop-number.number + 1 ≡ suc c.loop-number.number = omega arith in
    so_far_next c.args.whole.now.pool.now c.args.whole.now.scene.now p ready.is_scene c.args.graphs.now (c.requires.graphs p ready) c.loop-number.number (sizes_of c.loop-number.totals) (c.loop-number.invariant p ready)
    c.index-graphs-number.result c.index-graphs-number.result less c.index-graphs-number.is (c.loop-number.number + 1) (sizes_of c.in-Ok.behind) next c.in-Ok.ensures.within

pub returns-clause-within : goal.returns-clause-within
returns-clause-within c p ready =
    let past : length c.args.graphs.now ≤ c.loop-number.number = omega arith in
    so_far_last c.args.whole.now.pool.now c.args.whole.now.scene.now p ready.is_scene c.args.graphs.now (c.requires.graphs p ready) c.loop-number.number (sizes_of c.loop-number.totals) (c.loop-number.invariant p ready) past

pub returns-clause-counted : goal.returns-clause-counted
returns-clause-counted c p ready =
    let past : length c.args.graphs.now ≤ c.loop-number.number = omega arith in
    so_far_counts c.args.whole.now.pool.now c.args.whole.now.scene.now p ready.is_scene c.args.graphs.now (c.requires.graphs p ready) c.loop-number.number (sizes_of c.loop-number.totals) (c.loop-number.invariant p ready) past
    (record { paths = c.loop-number.totals.paths; conditions = c.loop-number.totals.conditions }) refl refl
