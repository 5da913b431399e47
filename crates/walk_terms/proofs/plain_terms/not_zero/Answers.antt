use Rattle.std.proofs.Common.{◌∙◌}
use Rattle.formula.specs.declared.function.BuiltIn.TheVariants.{Equal}
use Rattle.formula.proofs.Grown.{tree_of-Grows}
use Rattle.fort_model.specs.Senses.{make2, negated, of_terms}
use Rattle.walk_terms.proofs.plain_terms.not_zero.Goals as goal

pub returns-clause-tree : goal.returns-clause-tree
returns-clause-tree c =
    let b = tree_of-Grows c.args.pool.now c.natural.new.pool c.args.b c.natural.ensures.grows c.requires in
    c.in_ok-not.ensures.tree ∙ (λ i. negated of_terms ((c.in_ok-is_zero.ensures.tree ∙ (λ j. make2 of_terms Equal (b j) (c.in_ok-zero.ensures.tree j))) i))
