use Rattle.std.proofs.Common.{◌∙◌}
use Rattle.formula.specs.declared.function.BuiltIn.TheVariants.{AtMost}
use Rattle.formula.proofs.Grown.{tree_of-Grows}
use Rattle.fort_model.specs.Senses.{make2, of_terms}
use Rattle.note_terms.proofs.bounds.low_bound.Goals as goal

pub returns-clause-tree : goal.returns-clause-tree
returns-clause-tree c =
    let least = tree_of-Grows c.least_integer.new.pool c.negative.new.pool c.in_ok-least.least c.negative.ensures.grows c.in_ok-least.ensures.is_in ∙ c.in_ok-least.ensures.tree in
    c.in_ok-fact.ensures.tree ∙ (λ i. make2 of_terms AtMost (least i) (c.in_ok-low.ensures.tree i))
