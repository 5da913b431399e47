use Rattle.std.proofs.Common.{◌∙◌}
use Rattle.formula.specs.declared.function.BuiltIn.TheVariants.{IntegerCell}
use Rattle.formula.proofs.Grown.{tree_of-Grows}
use Rattle.fort_model.specs.Senses.{make3, of_terms}
use Rattle.walk_terms.proofs.Steps.{after_two}
use Rattle.walk_terms.proofs.cells.integer_cell.Goals as goal

pub returns-clause-tree : goal.returns-clause-tree
returns-clause-tree c =
    let p0 = c.args.pool.now in
    let p1 = c.least_integer.new.pool in
    let p2 = c.greatest_integer.new.pool in
    let least = tree_of-Grows p1 p2 c.in_ok-least.least c.greatest_integer.ensures.grows c.in_ok-least.ensures.is_in ∙ c.in_ok-least.ensures.tree in
    let value = after_two p0 p1 p2 c.args.value c.least_integer.ensures.grows c.greatest_integer.ensures.grows c.requires in
    c.in_ok-cell.ensures.tree ∙ (λ i. make3 of_terms IntegerCell (value i) (least i) (c.in_ok-greatest.ensures.tree i))
