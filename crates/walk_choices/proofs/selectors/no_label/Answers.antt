use Rattle.std.proofs.Common.{◌∙◌}
use Rattle.formula.proofs.Grown.{tree_of-Grows}
use Rattle.fort_model.specs.Senses.{lies_from_to, negated, of_terms}
use Rattle.walk_terms.proofs.Steps.{after_two}
use Rattle.walk_choices.proofs.selectors.no_label.Goals as goal

pub returns-clause-tree : goal.returns-clause-tree
returns-clause-tree c =
    let p0 = c.args.pool.now in
    let p1 = c.natural.new.pool in
    let p2 = c.natural-2.new.pool in
    let least = tree_of-Grows p1 p2 c.in_ok-least.least c.natural-2.ensures.grows c.in_ok-least.ensures.is_in ∙ c.in_ok-least.ensures.tree in
    let number = after_two p0 p1 p2 c.args.number c.natural.ensures.grows c.natural-2.ensures.grows c.requires in
    let within = c.in_ok-within.ensures.tree ∙ (λ i. lies_from_to of_terms (least i) (c.in_ok-most.ensures.tree i) (number i)) in
    c.in_ok-none.ensures.tree ∙ (λ i. negated of_terms (within i))
