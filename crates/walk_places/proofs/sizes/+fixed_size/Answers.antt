use Rattle.walk_places.proofs.ShapeRows.{first_item, times_small}
use Rattle.walk_places.proofs.sizes.+fixed_size.Goals as goal

pub times-requires : goal.times-requires
times-requires t c m more =
    let parts = first_item c.args.dims.now c.first-item.result c.in-len1-up.len_at_least c.first-item.is in
    times_small c.args.dims.now _ c.first-item.result c.in-Fixed.n m _ parts c.in-Fixed.is c.fixed_size-more.ensures.value more c.requires
