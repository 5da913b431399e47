use Rattle.std.proofs.Common.{◌∙◌}
use Rattle.formula.specs.declared.function.BuiltIn.TheVariants.{And, AtMost}
use Rattle.formula.proofs.Grown.{tree_of-Grows}
use Rattle.fort_model.specs.Senses.{make2, of_terms}
use Rattle.walk_terms.proofs.integers.between.Goals as goal

pub returns-clause-tree : goal.returns-clause-tree
returns-clause-tree c =
    let p0 = c.args.pool.now in
    let p1 = c.binary.new.self in
    let p2 = c.binary-2.new.self in
    let first = tree_of-Grows p1 p2 c.in_ok-first.first c.binary-2.ensures.grows c.in_ok-first.ensures.is_in ∙ c.in_ok-first.ensures.tree in
    let number = tree_of-Grows p0 p1 c.args.number c.binary.ensures.grows c.requires.number in
    let high = tree_of-Grows p0 p1 c.args.high c.binary.ensures.grows c.requires.high in
    c.in_ok-both.ensures.tree ∙ (λ i. make2 of_terms And (first i) ((c.in_ok-second.ensures.tree ∙ (λ j. make2 of_terms AtMost (number j) (high j))) i))
