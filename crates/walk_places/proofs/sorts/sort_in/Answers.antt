use Rattle.std.proofs.Common.{◌∙◌, ap, sym}
use Rattle.std.specs.Option.{option_copied}
use Rattle.fort_model.specs.Senses.{of_terms}
use Rattle.fort_model.specs.WalkPlaces as walks
use Rattle.walk_names.specs.Names.{named}
use Rattle.walk_names.proofs.NameTables.{names_grow}
use Rattle.walk_places.proofs.ShapeRows.{names_same}
use Rattle.walk_places.proofs.sorts.sort_in.Goals as goal

pub sort_by-requires-clause-kept : goal.sort_by-requires-clause-kept
sort_by-requires-clause-kept c = names_grow _ _ _ c.term.ensures.grows c.requires.kept

pub returns-clause-tree : goal.returns-clause-tree
returns-clause-tree c =
    let p0 = c.args.pool.now in
    let names = c.args.names.now in
    c.in_ok-fits.ensures.tree
    ∙ (λ i. walks.sort_by of_terms (names_same p0 c.term.new.pool names c.term.ensures.grows c.requires.kept i) (c.as_slice.ensures i) c.in-Some.entity.now.sort (c.in_ok-value.ensures.tree i))
    ∙ ap (λ o. walks.sort_in of_terms (named p0 names) c.args.name.now (option_copied o)) (sym c.in-Some.is)
