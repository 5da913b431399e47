use Rattle.std.proofs.Common.{◌∙◌, ◌-◌, ap, drop, length, sym, take}
use Rattle.fort_model.specs.Senses.{of_terms}
use Rattle.fort_model.specs.WalkPlaces as walks
use Rattle.walk_names.specs.Names.{named}
use Rattle.walk_names.proofs.NameTables.{names_grow}
use Rattle.walk_places.proofs.ShapeRows.{first_item, names_same}
use Rattle.walk_places.proofs.dims.stretch.Goals as goal

pub stretch_from-requires-clause-kept : goal.stretch_from-requires-clause-kept
stretch_from-requires-clause-kept c = names_grow _ _ _ c.dim_term.ensures.grows c.requires

pub returns-in_ok-whole-in-len1-up-clause-tree : goal.returns-in_ok-whole-in-len1-up-clause-tree
returns-in_ok-whole-in-len1-up-clause-tree c =
    let dims = c.args.dims.now in
    let p0 = c.args.pool.now in
    let names = c.args.names.now in
    let parts = first_item dims c.first-item.result c.in-len1-up.len_at_least c.first-item.is in
    c.in_ok-whole-in-len1-up.ensures.tree
    ∙ (λ i. walks.stretch_from of_terms (names_same p0 c.dim_term.new.pool names c.dim_term.ensures.grows c.requires i) (c.in_ok-dim-in-len1-up.ensures.tree i) (take (length dims - 1) (drop 1 dims)))
    ∙ ap (walks.stretch of_terms (named p0 names)) (sym parts)
