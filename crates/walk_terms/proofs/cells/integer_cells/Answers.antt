use Rattle.std.proofs.Common.{◌∙◌, [], ◌∷◌, ap}
use Rattle.formula.specs.Pool.{row_in, trees}
use Rattle.formula.specs.Tree.{apply}
use Rattle.formula.specs.declared.function.BuiltIn.TheVariants.{IntegerCells}
use Rattle.formula.specs.declared.function.Func.TheVariants.{BuiltIn}
use Rattle.formula.proofs.Grown.{tree_of-Grows}
use Rattle.fort_model.specs.Senses.{of_terms}
use Rattle.walk_terms.proofs.Steps.{after_two}
use Rattle.walk_terms.proofs.cells.integer_cells.Goals as goal

pub returns-clause-tree : goal.returns-clause-tree
returns-clause-tree c =
    let p0 = c.args.pool.now in
    let p1 = c.least_integer.new.pool in
    let p2 = c.greatest_integer.new.pool in
    let least = tree_of-Grows p1 p2 c.in_ok-least.least c.greatest_integer.ensures.grows c.in_ok-least.ensures.is_in ∙ c.in_ok-least.ensures.tree in
    let value = after_two p0 p1 p2 c.args.value c.least_integer.ensures.grows c.greatest_integer.ensures.grows c.requires.value in
    let count = after_two p0 p1 p2 c.args.count c.least_integer.ensures.grows c.greatest_integer.ensures.grows c.requires.count in
    c.in_ok-cells.ensures.tree ∙ ap (λ args. apply (BuiltIn IntegerCells) (row_in (trees p2) args)) c.in_ok-args.ensures.ok
    ∙ (λ i. of_terms.make IntegerCells (value i ∷ count i ∷ least i ∷ c.in_ok-greatest.ensures.tree i ∷ []))
