use Rattle.std.proofs.Common.{◌<◌, length, arith}
use Rattle.formula.proofs.Growth.{argument_at}
use Rattle.weight_terms.proofs.notes.test_terms.Goals as goal

pub term_weight-requires : goal.term_weight-requires
term_weight-requires c =
    let inside : c.loop-id.id-index < length c.args.ids.now = omega arith in
    argument_at (length c.args.pool.now) c.args.ids.now c.loop-id.id-index (record { place = 0 }) c.requires inside
