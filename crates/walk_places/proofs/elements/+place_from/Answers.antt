use Rattle.std.proofs.Common.{arith, get_or, length}
use Rattle.std.proofs.lemmas.Grind.{common_steps}
use Rattle.formula.proofs.Grown.{AllBelow-Grows, Grows-trans, IsIn-Grows}
use Rattle.walk_names.proofs.NameTables.{names_grow}
use Rattle.walk_places.proofs.ShapeRows.{below_parts, first_item, first_rest, place_step}
use Rattle.walk_places.proofs.elements.+place_from.Goals as goal

pub dim_term-requires : goal.dim_term-requires
dim_term-requires t c = names_grow _ _ _ c.moved.ensures.grows c.requires.kept

pub place_from-requires : goal.place_from-requires
place_from-requires t c =
    let p0 = c.args.pool.now in
    let subscripts = c.args.left.now.subscripts.now in
    let late = Grows-trans c.moved.new.pool c.dim_term.new.pool c.binary.new.self c.dim_term.ensures.grows c.binary.ensures.grows in
    let whole = Grows-trans p0 c.moved.new.pool c.binary.new.self c.moved.ensures.grows late in
    let parts = first_rest subscripts (record { place = 0 }) c.in-len1-up.len_at_least in (
      grind (arith, common_steps, c.decreases, c.in-len1-up-dims.len_at_least),
      (
        names_grow p0 c.binary.new.self c.args.names.now whole c.requires.kept,
        (
          IsIn-Grows c.moved.new.pool c.binary.new.self c.in_ok-place.place late c.in_ok-place.ensures.is_in,
          (
            c.in_ok-stretch.ensures.is_in,
            AllBelow-Grows p0 c.binary.new.self _ whole (below_parts (length p0) subscripts _ (get_or subscripts 0 (record { place = 0 })) parts c.requires.subscripts).1,
          ),
        ),
      ),
    )

pub returns-clause-tree : goal.returns-clause-tree
returns-clause-tree t c =
    let subscripts = c.args.left.now.subscripts.now in
    let dims = c.args.left.now.dims.now in
    place_step c.args.pool.now c.moved.new.pool c.dim_term.new.pool c.binary.new.self c.args.names.now c.args.so_far.place c.args.so_far.stretch (get_or subscripts 0 (record { place = 0 }))
    c.in_ok-place.place c.in_ok-most.most c.in_ok-stretch.stretch c.dim-item.result subscripts _ dims _ _ c.requires.kept c.requires.stretch c.requires.subscripts c.moved.ensures.grows
    c.dim_term.ensures.grows c.binary.ensures.grows (first_rest subscripts (record { place = 0 }) c.in-len1-up.len_at_least)
    (first_item dims c.dim-item.result c.in-len1-up-dims.len_at_least c.dim-item.is) c.in_ok-place.ensures.is_in c.in_ok-place.ensures.tree c.in_ok-most.ensures.tree c.in_ok-stretch.ensures.tree
    c.in_ok-whole.ensures.tree
