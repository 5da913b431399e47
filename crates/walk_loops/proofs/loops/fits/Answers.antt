use Rattle.std.proofs.Common.{◌∙◌}
use Rattle.formula.specs.declared.function.BuiltIn.TheVariants.{And, AtMost}
use Rattle.formula.proofs.Grown.{Grows-trans, IsIn-Grows, tree_of-Grows}
use Rattle.fort_model.specs.Senses.{make2, make3, natural, of_terms}
use Rattle.walk_terms.proofs.Steps.{after_two}
use Rattle.walk_loops.proofs.loops.fits.Goals as goal

pub positive-requires-2 : goal.positive-requires-2
positive-requires-2 c = IsIn-Grows _ _ c.args.step (Grows-trans _ _ _ c.positive.ensures.grows c.binary.ensures.grows) c.requires.step

pub returns-clause-tree : goal.returns-clause-tree
returns-clause-tree c =
    let p0 = c.args.pool.now in
    let p1 = c.positive.new.pool in
    let p2 = c.binary.new.self in
    let p3 = c.positive-2.new.pool in
    let first = tree_of-Grows p0 p1 c.args.first c.positive.ensures.grows c.requires.first in
    let last = tree_of-Grows p0 p1 c.args.last c.positive.ensures.grows c.requires.last in
    let step = after_two p0 p1 p2 c.args.step c.positive.ensures.grows c.binary.ensures.grows c.requires.step in
    let begins = after_two p1 p2 p3 c.in_ok-begins.begins c.binary.ensures.grows c.positive-2.ensures.grows c.in_ok-begins.ensures.is_in ∙ c.in_ok-begins.ensures.tree in
    let goes_up = tree_of-Grows p2 p3 c.in_ok-goes_up.goes_up c.positive-2.ensures.grows c.in_ok-goes_up.ensures.is_in ∙ c.in_ok-goes_up.ensures.tree ∙ (λ i. make2 of_terms AtMost (first i) (last i)) in
    let steps = c.in_ok-steps.ensures.tree ∙ (λ i. make2 of_terms AtMost (natural of_terms 1) (step i)) in
    c.in_ok-all.ensures.tree ∙ (λ i. make3 of_terms And (begins i) (goes_up i) (steps i))
