use Rattle.std.proofs.Common.{◌∙◌}
use Rattle.formula.specs.Pool.{tree_of}
use Rattle.formula.proofs.Grown.{tree_of-Grows}
use Rattle.fort_model.specs.Senses.{of_terms}
use Rattle.fort_model.specs.WalkPlaces as walks
use Rattle.walk_names.specs.Names.{named}
use Rattle.walk_places.proofs.ShapeRows.{sort_many}
use Rattle.walk_places.proofs.sorts.sort_by.Goals as goal

pub returns-clause-tree : goal.returns-clause-tree
returns-clause-tree c =
    let p0 = c.args.pool.now in
    let value = tree_of-Grows p0 c.size.new.pool c.args.value c.size.ensures.grows c.requires.value in
    c.in_ok-cells.ensures.tree ∙ (λ i. walks.cells_sort of_terms c.args.shape.now.sort (c.in_ok-count.ensures.tree i) (value i))
    ∙ sort_many (named p0 c.args.names.now) c.args.shape.now.dims.now c.args.shape.now.sort (tree_of p0 c.args.value) c.is_empty.result c.is_empty.ensures c.if-is_empty.false
