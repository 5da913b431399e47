use Rattle.std.proofs.Common.{get_or, length}
use Rattle.formula.proofs.Grown.{AllBelow-Grows}
use Rattle.walk_names.proofs.NameTables.{names_grow}
use Rattle.walk_places.proofs.ShapeRows.{below_parts, first_item, first_rest, place_begins}
use Rattle.walk_places.proofs.elements.place.Goals as goal

pub place_from-requires-clause-kept : goal.place_from-requires-clause-kept
place_from-requires-clause-kept c = names_grow _ _ _ c.dim_term.ensures.grows c.requires.kept

pub place_from-requires-clause-subscripts : goal.place_from-requires-clause-subscripts
place_from-requires-clause-subscripts c =
    let subscripts = c.args.subscripts.now in
    let parts = first_rest subscripts (record { place = 0 }) c.in-len1-up.len_at_least in
    AllBelow-Grows c.args.pool.now c.dim_term.new.pool _ c.dim_term.ensures.grows
    (below_parts (length c.args.pool.now) subscripts _ (get_or subscripts 0 (record { place = 0 })) parts c.requires.subscripts).1

pub returns-clause-tree : goal.returns-clause-tree
returns-clause-tree c =
    let subscripts = c.args.subscripts.now in
    place_begins c.args.pool.now c.dim_term.new.pool c.args.names.now (get_or subscripts 0 (record { place = 0 })) c.in_ok-stretch.stretch c.dim-item.result subscripts _ c.args.dims.now _ _
    c.requires.kept c.requires.subscripts c.dim_term.ensures.grows (first_rest subscripts (record { place = 0 }) c.in-len1-up.len_at_least)
    (first_item c.args.dims.now c.dim-item.result c.in-len1-up-dims.len_at_least c.dim-item.is) c.in_ok-stretch.ensures.tree c.in_ok-whole.ensures.tree
