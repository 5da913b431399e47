use Rattle.std.proofs.Common.{◌∙◌}
use Rattle.formula.proofs.Grown.{tree_of-Grows}
use Rattle.fort_model.specs.Senses.{lies_from_to, of_terms}
use Rattle.walk_terms.proofs.Steps.{after_two}
use Rattle.walk_places.proofs.elements.subscript_fits.Goals as goal

pub returns-clause-tree : goal.returns-clause-tree
returns-clause-tree c =
    let p0 = c.args.pool.now in
    let p1 = c.dim_term.new.pool in
    let p2 = c.natural.new.pool in
    let most = tree_of-Grows p1 p2 c.in_ok-most.most c.natural.ensures.grows c.in_ok-most.ensures.is_in ∙ c.in_ok-most.ensures.tree in
    let subscript = after_two p0 p1 p2 c.args.subscript c.dim_term.ensures.grows c.natural.ensures.grows c.requires.subscript in
    c.in_ok-fits.ensures.tree ∙ (λ i. lies_from_to of_terms (c.in_ok-least.ensures.tree i) (most i) (subscript i))
