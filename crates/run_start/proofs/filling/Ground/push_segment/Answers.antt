use Rattle.std.proofs.Common.{◌<◌, length, rules}
use Rattle.run_start.specs.Places.{extent_in, first_place}
use Rattle.run_start.proofs.Holding.{next_mapped}
use Rattle.run_start.proofs.filling.Ground.push_segment.Goals as goal

pub push-requires : goal.push-requires
push-requires c =
    let lt : c.loop-name.name-index < length c.args.names.now = search rules in
    next_mapped (λ x. extent_in c.args.self.now.ends.now (first_place c.args.self.now.names.now x 0)) c.loop-name.row.items c.args.row.now.items c.args.names.now c.loop-name.name-index c.loop-name.row.room c.args.row.now.room
    c.loop-name.invariant.0 c.loop-name.invariant.1 c.requires lt
