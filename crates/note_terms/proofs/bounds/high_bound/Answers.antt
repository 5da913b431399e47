use Rattle.std.proofs.Common.{◌∙◌}
use Rattle.formula.specs.declared.function.BuiltIn.TheVariants.{AtMost}
use Rattle.formula.proofs.Grown.{tree_of-Grows}
use Rattle.fort_model.specs.Senses.{make2, of_terms}
use Rattle.note_terms.proofs.bounds.high_bound.Goals as goal

pub returns-clause-tree : goal.returns-clause-tree
returns-clause-tree c =
    let high = tree_of-Grows c.natural.new.pool c.greatest_integer.new.pool c.in_ok-high.high c.greatest_integer.ensures.grows c.in_ok-high.ensures.is_in ∙ c.in_ok-high.ensures.tree in
    c.in_ok-fact.ensures.tree ∙ (λ i. make2 of_terms AtMost (high i) (c.in_ok-greatest.ensures.tree i))
