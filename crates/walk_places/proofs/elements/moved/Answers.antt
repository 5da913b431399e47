use Rattle.std.proofs.Common.{◌∙◌}
use Rattle.formula.specs.declared.function.BuiltIn.TheVariants.{Difference, Plus, Times}
use Rattle.formula.proofs.Grown.{Grows-trans, tree_of-Grows}
use Rattle.fort_model.specs.Senses.{make2, of_terms}
use Rattle.walk_terms.proofs.Steps.{after_two}
use Rattle.walk_places.proofs.elements.moved.Goals as goal

pub returns-clause-tree : goal.returns-clause-tree
returns-clause-tree c =
    let p0 = c.args.pool.now in
    let p1 = c.natural.new.pool in
    let p2 = c.binary.new.self in
    let p3 = c.binary-2.new.self in
    let near = Grows-trans p0 p1 p2 c.natural.ensures.grows c.binary.ensures.grows in
    let place = after_two p0 p2 p3 c.args.so_far.place near c.binary-2.ensures.grows c.requires.place in
    let stretch = after_two p0 p1 p2 c.args.so_far.stretch c.natural.ensures.grows c.binary.ensures.grows c.requires.stretch in
    let subscript = tree_of-Grows p0 p1 c.args.subscript c.natural.ensures.grows c.requires.subscript in
    let count = c.in_ok-count.ensures.tree ∙ (λ i. make2 of_terms Difference (subscript i) (c.in_ok-one.ensures.tree i)) in
    let more = c.in_ok-more.ensures.tree ∙ (λ i. make2 of_terms Times (stretch i) (count i)) in
    c.in_ok-next.ensures.tree ∙ (λ i. make2 of_terms Plus (place i) (more i))
