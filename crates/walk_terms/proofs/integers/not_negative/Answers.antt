use Rattle.std.proofs.Common.{◌∙◌}
use Rattle.formula.specs.declared.function.BuiltIn.TheVariants.{AtMost}
use Rattle.formula.proofs.Grown.{tree_of-Grows}
use Rattle.fort_model.specs.Senses.{make2, of_terms}
use Rattle.walk_terms.proofs.integers.not_negative.Goals as goal

pub returns-clause-tree : goal.returns-clause-tree
returns-clause-tree c =
    let number = tree_of-Grows c.args.pool.now c.natural.new.pool c.args.number c.natural.ensures.grows c.requires in
    c.in_ok-at_least.ensures.tree ∙ (λ i. make2 of_terms AtMost (c.in_ok-zero.ensures.tree i) (number i))
