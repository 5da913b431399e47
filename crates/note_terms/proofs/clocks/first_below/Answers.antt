use Rattle.std.proofs.Common.{◌∙◌}
use Rattle.formula.specs.declared.function.BuiltIn.TheVariants.{And, Or, AtMost}
use Rattle.formula.proofs.Grown.{tree_of-Grows}
use Rattle.fort_model.specs.Senses.{make2, of_terms}
use Rattle.walk_terms.proofs.Steps.{after_two}
use Rattle.note_terms.proofs.clocks.first_below.Goals as goal

pub returns-clause-tree : goal.returns-clause-tree
returns-clause-tree c =
    let p0 = c.args.pool.now in
    let p1 = c.binary.new.self in
    let p2 = c.binary-2.new.self in
    let p3 = c.binary-3.new.self in
    let n = tree_of-Grows p0 p1 c.args.new c.binary.ensures.grows c.requires.new in
    let o = tree_of-Grows p0 p1 c.args.old c.binary.ensures.grows c.requires.old in
    let later = after_two p0 p1 p2 c.args.later c.binary.ensures.grows c.binary-2.ensures.grows c.requires.later in
    let less = after_two p1 p2 p3 c.in_ok-less.less c.binary-2.ensures.grows c.binary-3.ensures.grows c.in_ok-less.ensures.is_in ∙ c.in_ok-less.ensures.tree in
    c.in_ok-either.ensures.tree
    ∙ (λ i. make2 of_terms Or (less i) ((c.in_ok-both.ensures.tree ∙ (λ j. make2 of_terms And ((c.in_ok-most.ensures.tree ∙ (λ k. make2 of_terms AtMost (n k) (o k))) j) (later j))) i))
