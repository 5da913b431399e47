use Rattle.std.proofs.Common.{◌<◌, ◌≤◌, ap, drop, length, arith}
use Rattle.std.proofs.lemmas.List.{drop_all}
use Rattle.weight_terms.specs.Held.{held}
use Rattle.weight_terms.specs.Terms.{weights_told}
use Rattle.weight_terms.proofs.Weighed.{summed_end}
use Rattle.formula.proofs.Growth.{argument_at}
use Rattle.weight_terms.proofs.notes.sum_terms.Goals as goal

pub term_weight-requires : goal.term_weight-requires
term_weight-requires c =
    let inside : c.loop-id.id-index < length c.args.ids.now = omega arith in
    argument_at (length c.args.pool.now) c.args.ids.now c.loop-id.id-index (record { place = 0 }) c.requires inside

pub returns : goal.returns
returns c =
    let past : length c.args.ids.now ≤ c.loop-id.id-index = omega arith in
    summed_end (weights_told c.args.pool.now (held c.args.told.now.before.now) (held c.args.told.now.behind.now) c.args.ids.now)
    (weights_told c.args.pool.now (held c.args.told.now.before.now) (held c.args.told.now.behind.now) (drop c.loop-id.id-index c.args.ids.now)) c.loop-id.all
    (ap (weights_told c.args.pool.now (held c.args.told.now.before.now) (held c.args.told.now.behind.now)) (drop_all c.loop-id.id-index c.args.ids.now past)) c.loop-id.invariant
